-- What words ask for, and what a request is limited to.
use Rattle.std.specs.Prelude.{◌≡◌, ◌≤◌, ◌-◌, ⊤, ℕ, ℤ, Bool, true, false}
use Rattle.std.specs.Prelude.{List, Option, Some, None, IfSome, codes, length, pos, slice_get}
use Rattle.std.specs.Borrow.{Bor}
use Rattle.std.specs.Str.Parse.{IsNumeral, digits_value, signed_digits_value, without_leading_plus}
use Rattle.std.specs.Str.Parse.{without_leading_sign}
use Rattle.clap.specs.Words.{Row, Text, all_of, first_of, one_of, subcommand_of}
use Rattle.clap.specs.declared.error.kind.ErrorKind.{ErrorKind}
use Rattle.clap.specs.declared.error.kind.ErrorKind.TheVariants as kind
use Rattle.mm_definitions.specs.Bounds.{IsId}
use Rattle.mm_arguments.specs.CommandLine.{command_line}
use Rattle.mm_arguments.specs.declared.requests.Request.{Request}
use Rattle.mm_arguments.specs.declared.requests.Request.TheVariants.{Init, Run, Kit, Check, List as Tables, Show, Serve}
use Rattle.mm_arguments.specs.declared.requests.Request.TheVariants.{Desk, Migrate, Explain}
use Rattle.mm_arguments.specs.declared.requests.Aids.{Aids}

-- a port is at least 1, and so many connections are served: 1 to 1,000,000; the number of a row is one
abbrev pub IsRequestWithin : Request → Type 0
IsRequestWithin (Init file) = ⊤
IsRequestWithin (Run file at) = ⊤
IsRequestWithin (Kit file edition folder at) = ⊤
IsRequestWithin (Check file) = ⊤
IsRequestWithin (Tables file) = ⊤
IsRequestWithin (Show file table id) = IfSome id IsId
IsRequestWithin (Migrate file) = ⊤
IsRequestWithin (Explain answer) = ⊤
IsRequestWithin (Serve file port count) = (1 ≤ port) × (1 ≤ count) × (count ≤ 1000000)
IsRequestWithin (Desk file port count page) = (1 ≤ port) × (1 ≤ count) × (count ≤ 1000000)

-- ---- what the words of a subcommand give

module _ (rows : List Row) where
  -- the word of this argument
  abbrev pub IsGivenWord : Text → Bor Text → Type 0
  IsGivenWord id word = first_of id rows ≡ Some word.now

  -- the last of the words of this argument
  abbrev pub IsLastWord : Text → Bor Text → Type 0
  IsLastWord id word = (texts : List Text) × (all_of id rows ≡ Some texts)
      × (slice_get texts (length texts - 1) ≡ Some word.now)

  -- whether this flag stands
  abbrev pub IsFlag : Text → Bool → Type 0
  IsFlag id stands = (one_of id rows ≡ Some (codes "true") → stands ≡ true) × (one_of id rows ≡ Some (codes "false") → stands ≡ false)
      × (one_of id rows ≡ None → stands ≡ false)

  -- the number that stands behind an option
  abbrev pub IsNumber : Text → ℕ → Type 0
  IsNumber id number = (text : Text) × (one_of id rows ≡ Some text)
      × IsNumeral 10 (without_leading_plus text) × (number ≡ digits_value 10 (without_leading_plus text))

  -- the word of this argument, where one is given
  abbrev pub IsMaybeWord : Text → Option (Bor Text) → Type 0
  IsMaybeWord id None = all_of id rows ≡ None
  IsMaybeWord id (Some word) = IsGivenWord id word

  -- the moment, where the words give one
  abbrev pub IsGivenMoment : Option ℕ → Type 0
  IsGivenMoment None = all_of (codes "at") rows ≡ None
  IsGivenMoment (Some at) = (text : Text) × (one_of (codes "at") rows ≡ Some text)
      × IsNumeral 10 (without_leading_sign text) × (pos at ≡ signed_digits_value 10 text)

  -- the number of a row, where the words give one
  abbrev pub IsGivenId : Option ℤ → Type 0
  IsGivenId None = all_of (codes "ID") rows ≡ None
  IsGivenId (Some id) = (text : Text) × (one_of (codes "ID") rows ≡ Some text)
      × IsNumeral 10 (without_leading_sign text) × (id ≡ signed_digits_value 10 text)

-- the subcommand and its words ask for this
abbrev pub AsksFor : Text → List Row → Request → Type 0
AsksFor name rows (Init file) = (name ≡ codes "init") × IsGivenWord rows (codes "FILE") file
AsksFor name rows (Run file at) = (name ≡ codes "run") × IsGivenWord rows (codes "FILE") file × IsGivenMoment rows at
AsksFor name rows (Kit file edition folder at) = (name ≡ codes "kit") × IsGivenWord rows (codes "FILE") file
    × IsGivenWord rows (codes "EDITION") edition × IsGivenWord rows (codes "FOLDER") folder × IsGivenMoment rows at
AsksFor name rows (Check file) = (name ≡ codes "check") × IsGivenWord rows (codes "FILE") file
AsksFor name rows (Tables file) = (name ≡ codes "list") × IsGivenWord rows (codes "FILE") file
AsksFor name rows (Show file table id) = (name ≡ codes "show") × IsGivenWord rows (codes "FILE") file
    × IsGivenWord rows (codes "TABLE") table × IsGivenId rows id
AsksFor name rows (Migrate file) = (name ≡ codes "migrate") × IsGivenWord rows (codes "FILE") file
AsksFor name rows (Explain answer) = (name ≡ codes "explain") × IsLastWord rows (codes "ANSWER") answer
AsksFor name rows (Serve file port count) = (name ≡ codes "serve") × IsGivenWord rows (codes "FILE") file
    × IsNumber rows (codes "port") port × IsNumber rows (codes "count") count
AsksFor name rows (Desk file port count page) = (name ≡ codes "desk") × IsGivenWord rows (codes "FILE") file
    × IsNumber rows (codes "port") port × IsNumber rows (codes "count") count × IsMaybeWord rows (codes "page") page

-- the words ask for this: of what `clap` reads of them on the command line
abbrev pub WordsAsk : List Text → Request → Type 0
WordsAsk words request = (name : Text) × (rows : List Row) × (subcommand_of command_line words ≡ Some (name, rows))
    × AsksFor name rows request

-- the words want this told on standard error: of what `clap` reads of them on the command line
abbrev pub Wants : List Text → Aids → Type 0
Wants words aids = (name : Text) × (rows : List Row) × (subcommand_of command_line words ≡ Some (name, rows))
    × IsFlag rows (codes "words") aids.words × IsFlag rows (codes "progress") aids.progress

-- ---- the exit status of an error

-- 0 for help that was asked for, none for want of memory, 2 for wrong arguments
abbrev pub status_of : ErrorKind → Option ℕ
status_of kind.OutOfMemory = None
status_of kind.DisplayHelp = Some 0
status_of kind.DisplayVersion = Some 0
status_of other = Some 2
