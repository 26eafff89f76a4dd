-- The entries of a list, record by record.
use Rattle.std.proofs.Common.{◌≡◌, ◌∙◌, ◌≤◌, ◌+◌, ◌++◌, ℕ, List, [], ◌∷◌, take, drop, length, Option, Some, Ok, Err}
use Rattle.std.proofs.Common.{true, false, refl, sym, ap, subst, arith, length-append, append_assoc}
use Rattle.std.proofs.lemmas.List.{take-append-drop}
use Rattle.csv.specs.Reading.{Reached, ReadRecord, default_config, records, source_of}
use Rattle.csv.specs.declared.parser.State.TheVariants as states
use Rattle.csv.specs.declared.reader.Reader.{Reader}
use Rattle.csv.proofs.ReadFacts.{rows-end, rows-more}
use Rattle.mm_io.specs.Records.{Record}
use Rattle.mm_io.proofs.RecordsFacts.{records-all, records-first}
use Rattle.mm_kit.specs.Entries.{IsEntry, IsEntryReadAs}
use Rattle.mm_kit.specs.Lists.{AreEntries, AreSoFar, IsFirstRefused}
use Rattle.mm_kit.specs.declared.entries.KitEntry.{KitEntry}

-- ---- entries are few

entry_few : (place : ℕ) (r : Record) (e : KitEntry) → IsEntry place r e → place ≤ 4096
entry_few place [] e h = absurd h
entry_few place (number ∷ r) e h = h.1

pub read_few : (place : ℕ) (r : Record) (e : KitEntry) → IsEntryReadAs place r (Ok e) → place ≤ 4096
read_few place r e h = entry_few place r e h.1

-- ---- one more record

entries-more : (place : ℕ) (rows : List Record) (entries : List KitEntry) (r : Record) (e : KitEntry)
    → AreEntries place rows entries
    → IsEntryReadAs (place + length rows) r (Ok e) → AreEntries place (rows ++ r ∷ []) (entries ++ e ∷ [])
unfolding AreEntries
entries-more place [] [] r e h read = let same : place + length {A = Record} [] ≡ place =
    omega arith in (subst (λ k. IsEntryReadAs k r (Ok e)) same read, tt)
entries-more place [] (x ∷ xs) r e h read = absurd h
entries-more place (y ∷ ys) [] r e h read = absurd h
entries-more place (y ∷ ys) (x ∷ xs) r e h read =
    let same : place + length (y ∷ ys) ≡ place + 1 + length ys = omega arith in
    (h.0, entries-more (place + 1) ys xs r e h.1 (subst (λ k. IsEntryReadAs k r (Ok e)) same read))

pub so_far-none : (bytes : List ℕ) (source : Option (List ℕ)) → source ≡ Some bytes
    → AreSoFar bytes source states.StartRecord [] 1
unfolding Reached AreEntries
so_far-none bytes source e = record {
  rows = [];
  rest = bytes;
  here = e;
  reached = (refl, refl);
  count = refl;
  read = tt;
}

pub so_far-more : {T : Type 0} (rem : T → Option (List ℕ)) (a b : Reader T) (bytes : List ℕ) (r : Record) (e : KitEntry)
    (entries : List KitEntry) (place : ℕ)
    → a.config ≡ default_config → AreSoFar bytes (source_of rem a) a.state entries place → ReadRecord rem a b true r
    → IsEntryReadAs place r (Ok e)
    → AreSoFar bytes (source_of rem b) b.state (entries ++ e ∷ []) (place + 1)
so_far-more rem a b bytes r e entries place config s read good =
    let (zs, at, reached) = rows-more rem a b r default_config states.StartRecord bytes s.rest s.rows config s.here
    s.reached read in
    let here : place ≡ 1 + length s.rows = omega (arith, s.count) in
    record {
      rows = s.rows ++ r ∷ [];
      rest = zs;
      here = at;
      reached = reached;
      count = omega (arith, s.count, length-append s.rows (r ∷ []));
      read = entries-more 1 s.rows entries r e s.read (subst (λ k. IsEntryReadAs k r (Ok e)) here good);
    }

pub all-read : {T : Type 0} (rem : T → Option (List ℕ)) (a b : Reader T) (bytes : List ℕ) (r : Record)
    (entries : List KitEntry) (place : ℕ)
    → a.config ≡ default_config → AreSoFar bytes (source_of rem a) a.state entries place → ReadRecord rem a b false r
    → AreEntries 1 (records default_config bytes) entries
all-read rem a b bytes r entries place config s read =
    let all = records-all bytes s.rows
    (a.state, s.rest, s.reached, rows-end rem a b r default_config s.rest config s.here read) in
    subst (λ rows. AreEntries 1 rows entries) all s.read

pub one-refused : {T : Type 0} (rem : T → Option (List ℕ)) (a b : Reader T) (bytes : List ℕ) (r : Record) (n : ℕ)
    (entries : List KitEntry) (place : ℕ)
    → a.config ≡ default_config → AreSoFar bytes (source_of rem a) a.state entries place → ReadRecord rem a b true r
    → IsEntryReadAs place r (Err n)
    → IsFirstRefused (records default_config bytes) place n
one-refused rem a b bytes r n entries place config s read bad =
    let (zs, at, reached) = rows-more rem a b r default_config states.StartRecord bytes s.rest s.rows config s.here
    s.reached read in
    let all = records default_config bytes in
    let upto : s.rows ++ r ∷ [] ≡ take (length (s.rows ++ r ∷ [])) all = records-first b.state bytes zs
    (s.rows ++ r ∷ []) reached in
    let rest = drop (length (s.rows ++ r ∷ [])) all in
    let whole : all ≡ s.rows ++ r ∷ rest = sym (take-append-drop (length (s.rows ++ r ∷ [])) all)
    ∙ ap (λ l. l ++ rest) (sym upto) ∙ append_assoc s.rows (r ∷ []) rest in
    record {
      before = s.rows;
      row = r;
      after = rest;
      are = whole;
      place_is = omega (arith, s.count);
      entries = entries;
      read = s.read;
      refused = bad;
    }
