-- A head at the front of what was read is the head of the input.
use Rattle.std.proofs.Common.{◌≡◌, ◌∙◌, ◌≤◌, ◌+◌, ◌-◌, ℕ, List, ◌++◌, take, drop, length, Option, Some, None, IfSome}
use Rattle.std.proofs.Common.{sym, ap, arith, length-append}
use Rattle.std.proofs.lemmas.List.{length-map, length-take, take-append-le}
use Rattle.std.proofs.Math.Seq.{take-append-add, take-append_seam}
use Rattle.std.specs.Io.KnownBytes.{Consumes}
use borrow.Rule.Slice.PartMut.{post_of, put_mid}
use Rattle.httparse.specs.Grammar.{HasNoRequest, RequestHead, print_request}
use Rattle.httparse.specs.Spans.{IsRequestAt, IsRequestWithin}
use Rattle.httparse.specs.declared.spans.HeaderSpan.{HeaderSpan}
use Rattle.httparse.specs.declared.spans.RequestSpans.{RequestSpans}
use Rattle.httparse.proofs.GrammarLemmas.{ReadsRequest-append}
use Rattle.mm_page.specs.Heads.{IsHead}

-- the buffer after a read into its rest
pub taken : (a n k : ℕ) (xs ys : List ℕ) → a ≤ length xs → n ≤ length ys → take (a + n) (put_mid a k xs ys) ≡ take a xs
    ++ take n ys
taken a n k xs ys low fits =
    let size : length (take a xs) ≡ a = omega (arith, length-take a xs) in
    let front = take-append-add (take a xs) (ys ++ post_of a k xs) n in
    rw size at front ∙ ap (λ l. take a xs ++ l) (take-append-le n ys (post_of a k xs) fits)

pub within_buffer : (a n k : ℕ) (xs ys : List ℕ) → a ≤ length xs → n ≤ length ys → a + n ≤ length (put_mid a k xs ys)
within_buffer a n k xs ys low fits =
    omega (arith, length-append (take a xs) (ys ++ post_of a k xs), length-append ys (post_of a k xs), length-take a xs)

-- a whole head was read
pub complete : (limit room : ℕ) (front more input : List ℕ) (headers : List HeaderSpan) (spans : RequestSpans)
    (h : RequestHead)
    → input ≡ front ++ more → length front ≤ limit → length headers ≤ room → IsRequestWithin front headers spans
    → IsRequestAt front headers spans h
    → IsHead limit room input h
complete limit room front more input headers spans h is low few within at =
    let size : length h.fields ≡ length (take spans.headers headers) = sym (simp length-map at (ap length at.fields)) in
    record {
      rest = drop spans.len front ++ more;
      reads = rw is (ReadsRequest-append front h (drop spans.len front) more at.reads);
      short = omega (arith, at.len, within.section.len_fits);
      few = omega (arith, size, length-take spans.headers headers);
    }

-- the buffer is full, and has no head
pub full : (limit room : ℕ) (front more input : List ℕ) → input ≡ front ++ more → limit ≡ length front
    → HasNoRequest front → (h : RequestHead)
    → ¬ (IsHead limit room input h)
full limit room front more input is at none h head =
    let p = print_request h in
    let m = length front - length p in
    let whole : front ++ more ≡ p ++ head.rest = sym is ∙ head.reads.1 in
    let size : length p + m ≡ length front = omega (arith, head.short, at) in
    let cut : front ≡ p ++ take m head.rest = sym (take-append_seam front more) ∙ ap (take (length front)) whole
    ∙ (rw size at (take-append-add p head.rest m)) in
    none h (take m head.rest) (head.reads.0, cut)

-- what holds of each input that begins with what was read holds of the reader's
pub from_consumed : (old now : Option (List ℕ)) (front : List ℕ) (P : List ℕ → Type 0) → Consumes old now front
    → ((more input : List ℕ) → input ≡ front ++ more → P input) → IfSome old P
from_consumed None now front P h all = tt
from_consumed (Some input) None front P h all = absurd h
from_consumed (Some input) (Some more) front P h all = all more input h
