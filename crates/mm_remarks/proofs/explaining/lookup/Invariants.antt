use Rattle.std.proofs.Common.{◌≡◌, length, map}
use Rattle.mm_remarks.specs.Words.{found_in}
use Rattle.mm_remarks.proofs.explaining.lookup.Given as goal

abbrev pub invariant-loop-table : goal.invariant-loop-table
invariant-loop-table l =
    found_in (map (λ entry. (entry.0.now, entry.1.now)) l.table) l.word
    ≡ found_in (map (λ entry. (entry.0.now, entry.1.now)) l.initial.table) l.word

abbrev pub decreases-loop-table : goal.decreases-loop-table
decreases-loop-table l = length l.table
