-- What the matches give, as facts of their rows.
use Rattle.std.proofs.Common.{◌≡◌, ◌∙◌, ◌-◌, Bool, true, false, List, Option, Some, None, Result, Ok, refl, sym, ap}
use Rattle.std.proofs.Common.{subst}
use Rattle.std.proofs.Common.{is_some, option_map, codes, length, map, slice_get}
use Rattle.std.proofs.lemmas.List.{length-map}
use Rattle.std.proofs.lemmas.Option.{slice_get-map}
use Rattle.std.specs.Prelude.{IfSome, Box}
use Rattle.std.specs.Borrow.{Bor}
use Rattle.std.specs.Box.{box_value}
use Rattle.clap.specs.Words.{ReadsOne, Row, Text, all_of, first_value, matched_of, one_of, one_text, raw_values}
use Rattle.clap.specs.Words.{rows_of}
use Rattle.clap.specs.Words.{subcommand_name_of, subcommand_rows, subcommand_rows_of}
use Rattle.clap.specs.declared.parser.matches.ArgMatches.{ArgMatches}
use Rattle.clap.specs.declared.parser.matches.ArgMatches.TheViews.{out-ArgMatches, out-SubCommand}
use Rattle.clap.specs.declared.parser.matches.Found.{Found}
use Rattle.clap.specs.declared.parser.matches.MatchedArg.{MatchedArg}
use Rattle.clap.specs.declared.parser.matches.SubCommand.{SubCommand}
use Rattle.clap.proofs.WalkLemmas.{first_value-rows, one_text-rows, raw_values-rows}
use Rattle.mm_arguments.specs.Requests.{IsFlag, IsGivenWord, IsLastWord}

pub word_read : (f : Found) (id : Text) (o : Option (Bor Text)) → option_map (λ s. s.now) o ≡ first_value f id
    → IfSome o (IsGivenWord (rows_of f) id)
word_read f id None e = tt
word_read f id (Some w) e = sym (e ∙ first_value-rows f id)

pub absent : (f : Found) (id : Text) → is_some (matched_of f id) ≡ false → all_of id (rows_of f) ≡ None
absent f id none = sym (raw_values-rows f id) ∙ go (matched_of f id) none
  where
    go : (o : Option MatchedArg) → is_some o ≡ false → option_map raw_values o ≡ None
    go None e = refl
    go (Some a) e = cc

-- the last of the values of an argument
pub last_read : (f : Found) (id : Text) (texts : List (Bor Text)) (o : Option (Bor Text))
    → all_of id (rows_of f) ≡ Some (map (λ text. text.now) texts)
    → o ≡ slice_get texts (length texts - 1) → IfSome o (IsLastWord (rows_of f) id)
last_read f id texts None given last = tt
last_read f id texts (Some w) given last = (
  map (λ text. text.now) texts,
  given,
  slice_get-map (λ (text : Bor Text). text.now) texts (length (map (λ (text : Bor Text). text.now) texts) - 1)
      ∙ ap (λ n. option_map (λ (text : Bor Text). text.now) (slice_get texts (n - 1)))
      (length-map texts (λ (text : Bor Text). text.now))
      ∙ ap (option_map (λ (text : Bor Text). text.now)) (sym last),
)

-- whether a flag stands
pub flag_read : (f : Found) (id : Text) (stands : Bool) → (one_text f id ≡ None → stands ≡ false)
    → (one_text f id ≡ Some (codes "true") → stands ≡ true) → (one_text f id ≡ Some (codes "false") → stands ≡ false) → IsFlag (rows_of f) id stands
flag_read f id stands none if_true if_false = (
  λ e. if_true (one_text-rows f id ∙ e),
  λ e. if_false (one_text-rows f id ∙ e),
  λ e. none (one_text-rows f id ∙ e),
)

pub number_read : {T E : Type 0} (gives : Text → Result T E → Type 0) (f : Found) (id : Text) (r : Option T) (x : T)
    → r ≡ Some x
    → (one_text f id ≡ None → r ≡ None) → ((t : Text) → one_text f id ≡ Some t → ReadsOne gives t r)
    → (t : Text) × (one_of id (rows_of f) ≡ Some t) × gives t (Ok x)
number_read {T} {E} gives f id r x is none value = go (one_text f id) refl
  where
    go : (o : Option Text) → one_text f id ≡ o → (t : Text) × (one_of id (rows_of f) ≡ Some t) × gives t (Ok x)
    go None e = let no = none e in cc
    go (Some t) e = (t, sym (one_text-rows f id) ∙ e, subst (λ (q : Option T). ReadsOne gives t q) is (value t e))

-- the name and the rows of the subcommand that was met
pub met : (m : ArgMatches) (name : Text) (rows : List Row) → Some name ≡ subcommand_name_of m
    → Some rows ≡ option_map (λ p. p.1) (subcommand_rows_of m) → subcommand_rows_of m ≡ Some (name, rows)
met m name rows = go (out-ArgMatches m).subcommand
  where
    go : {Z : Type 0} (o : Option (Box SubCommand Z))
        → Some name ≡ option_map (λ b. (out-SubCommand (box_value b)).name.now) o
        → Some rows ≡ option_map (λ p. p.1) (subcommand_rows o) → subcommand_rows o ≡ Some (name, rows)
    go None a b = cc
    go (Some s) a b = cc
