-- First parts of a list that is done in two parts.
use Rattle.std.proofs.Common.{◌≡◌, ℕ, ◌+◌, ◌≤◌, List, [], ◌∷◌, ◌++◌, length, take, Option, Some, None, refl, sym, ap}
use Rattle.std.proofs.Common.{◌∙◌, arith}
use Rattle.std.proofs.lemmas.List.{take-append-le, length-append}
use Rattle.std.proofs.Math.Seq.{take-append-add, take-length}
use Rattle.mm_definitions.specs.Package.{Package}
use Rattle.mm_definitions.specs.Step.{refusal, step}
use Rattle.mm_definitions.specs.Runs.{Call, run, if_ok, accepted, IsFirstPart}
use Rattle.mm_definitions.specs.Refusals.{Refusal}
use Rattle.mm_laws.proofs.RunFacts.{run_accepted}

run_append : (before after : List Call) (p : Package) → run p (before ++ after) ≡ run (run p before) after
run_append [] after p = refl
run_append (c ∷ cs) after p = run_append cs after (step p c.command c.moment)

pub if_ok_append : (v : Option Refusal) (c : Call) (xs ys : List Call) → if_ok v c (xs ++ ys) ≡ if_ok v c xs ++ ys
if_ok_append None c xs ys = refl
if_ok_append (Some r) c xs ys = refl

accepted_append : (before after : List Call) (p : Package) → accepted p (before ++ after) ≡ accepted p before
    ++ accepted (run p before) after
accepted_append [] after p = refl
accepted_append (c ∷ cs) after p =
    ap (if_ok (refusal p c.command) c) (accepted_append cs after (step p c.command c.moment))
    ∙ if_ok_append (refusal p c.command) c (accepted (step p c.command c.moment) cs)
    (accepted (run (step p c.command c.moment) cs) after)

pub first_part_after : (p q : Package) (before after : List Call) (a : ℕ) → IsFirstPart (run p before) after a q
    → IsFirstPart p (before ++ after) (length (accepted p before) + a) q
first_part_after p q before after a part =
    let done = accepted p before in
    let rest = accepted (run p before) after in
    record {
      count = length done + part.count;
      at_least = more (length done) a part.count part.at_least;
      at_most = at_most (length done) a part.count part.at_most;
      there = there (length done) part.count (length rest) (length (accepted p (before ++ after))) part.there
          (ap length (accepted_append before after p) ∙ length-append done rest);
      is = part.is
          ∙ ap (λ r. run r (take part.count rest)) (sym (run_accepted before p))
          ∙ sym (run_append done (take part.count rest) p)
          ∙ ap (run p) (sym (take-append-add done rest part.count))
          ∙ ap (λ l. run p (take (length done + part.count) l)) (sym (accepted_append before after p));
    }
  where
    more : (n a k : ℕ) → a ≤ k → n + a ≤ n + k
    more n a k h = omega arith

    at_most : (n a k : ℕ) → k ≤ a + 1 → n + k ≤ n + a + 1
    at_most n a k h = omega arith

    there : (n k l all : ℕ) → k ≤ l → all ≡ n + l → n + k ≤ all
    there n k l all h e = omega arith

pub first_part_before : (p q : Package) (calls after : List Call) (a : ℕ) → IsFirstPart p calls a q
    → IsFirstPart p (calls ++ after) a q
first_part_before p q calls after a part =
    let done = accepted p calls in
    let rest = accepted (run p calls) after in
    record {
      count = part.count;
      at_least = part.at_least;
      at_most = part.at_most;
      there = there part.count (length done) (length rest) (length (accepted p (calls ++ after))) part.there
          (ap length (accepted_append calls after p) ∙ length-append done rest);
      is = part.is ∙ ap (run p) (sym (take-append-le part.count done rest part.there))
          ∙ ap (λ l. run p (take part.count l)) (sym (accepted_append calls after p));
    }
  where
    there : (k l m all : ℕ) → k ≤ l → all ≡ l + m → k ≤ all
    there k l m all h e = omega arith

pub whole_part : (p : Package) (calls : List Call) → IsFirstPart p calls (length (accepted p calls)) (run p calls)
whole_part p calls = record {
  count = length (accepted p calls);
  at_least = itself (length (accepted p calls));
  at_most = one_more (length (accepted p calls));
  there = itself (length (accepted p calls));
  is = sym (run_accepted calls p) ∙ ap (run p) (sym (take-length (accepted p calls)));
}
  where
    itself : (n : ℕ) → n ≤ n
    itself n = omega arith

    one_more : (n : ℕ) → n ≤ n + 1
    one_more n = omega arith
