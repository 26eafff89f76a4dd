use Rattle.std.proofs.Common.{◌≡◌, ◌-◌, arith, length, take, drop, rules}
use Rattle.std.proofs.lemmas.List.{length-drop, take_all}
use Rattle.std.proofs.Math.Seq.{take-add}
use Rattle.std.proofs.KnownBytes.{Appends-trans}
use Rattle.mm_io.proofs.sending.write_whole.Goals as goal

pub loop-at-preserved : goal.loop-at-preserved
loop-at-preserved g c =
    let at = c.loop-at.at in
    let line = c.args.bytes.now in
    let whole : take (length line - at) (drop at line) ≡ drop at line = take_all (length line - at) (drop at line)
    (omega (arith, length-drop at line)) in
    record {
      in_range = search rules;
      written = rw (take-add at c.in-Ok.taken line)
          (Appends-trans _ _ _ _ _ c.loop-at.invariant.written (rw whole at c.in-Ok.ensures.bytes));
      working = search rules;
    }
