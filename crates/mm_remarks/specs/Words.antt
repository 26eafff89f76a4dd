-- What is said of a number.
use Rattle.std.specs.Prelude.{◌≡◌, ℕ, List, [], ◌∷◌, Option, Some, None, bytes_eq, drop, if◌then◌else◌, map, take}
use Rattle.std.specs.Option.{option_or}
use Rattle.mm_definitions.specs.Keys.{Text}
use Rattle.mm_remarks.specs.declared.entries.TheConstants.{RECORDS, LAYOUT, CONTENT, EDITIONS, FAULTS, OPENINGS, RULES}

-- the text of the first entry of a table that has this name
abbrev pub found_in : List (Text × Text) → Text → Option Text
found_in [] word = None
found_in (entry ∷ rest) word = if bytes_eq entry.0 word then Some entry.1 else found_in rest word

-- of the table of what a record is refused for
unfoldable pub of_records : Text → Option Text
of_records = found_in (map (λ entry. (entry.0.now, entry.1.now)) RECORDS)

-- of the table of what systems, tables, matrices and tiles are refused for
unfoldable pub of_layout : Text → Option Text
of_layout = found_in (map (λ entry. (entry.0.now, entry.1.now)) LAYOUT)

-- of the table of what rows, media, relations and mapping rows are refused for
unfoldable pub of_content : Text → Option Text
of_content = found_in (map (λ entry. (entry.0.now, entry.1.now)) CONTENT)

-- of the table of what editions and kits are refused for
unfoldable pub of_editions : Text → Option Text
of_editions = found_in (map (λ entry. (entry.0.now, entry.1.now)) EDITIONS)

-- of the table of what ends the work
unfoldable pub of_faults : Text → Option Text
of_faults = found_in (map (λ entry. (entry.0.now, entry.1.now)) FAULTS)

-- of the table of what a file is, where it is no package
unfoldable pub of_openings : Text → Option Text
of_openings = found_in (map (λ entry. (entry.0.now, entry.1.now)) OPENINGS)

-- of the table of the sixteen rules
unfoldable pub of_rules : Text → Option Text
of_rules = found_in (map (λ entry. (entry.0.now, entry.1.now)) RULES)

-- the text of the entry of any table that has this name
abbrev pub text_of : Text → Option Text
text_of word =
    option_or (of_records word) (option_or (of_layout word) (option_or (of_content word) (option_or (of_editions word)
    (option_or (of_faults word) (option_or (of_openings word) (of_rules word))))))

-- it is a part of the text of the entry that has this name
abbrev pub IsOfItsText : Text → Text → Type 0
IsOfItsText word part = (text : Text) × (text_of word ≡ Some text) × (from : ℕ) × (to : ℕ)
    × (part ≡ drop from (take to text))
