use Rattle.std.proofs.Common.{◌≡◌, ◌∙◌, false, inr, arith, sym, subst, refl, length, take, true}
use Rattle.std.proofs.lemmas.List.{take_all}
use Rattle.std.specs.Io.KnownBytes.{Appends}
use Rattle.mm_definitions.specs.Streams.{inside}
use Rattle.mm_page.proofs.serving.serve_one.Goals as goal

pub returns-in-Flushed : goal.returns-in-Flushed
returns-in-Flushed g c =
    let sent = rw (c.in-Flushed.is, c.deref.ensures.value) at c.send.ensures.sent in
    record {
      same = c.in-Ok.ensures.same;
      kept = c.in-Ok.ensures.kept;
      served = (c.in-Ok.response.items, c.in-Ok.ensures.response, sent.0);
      working = sent.1;
      flushed = c.send.ensures.flushed c.in-Flushed.is;
      reading = c.in-Ok.ensures.reading;
      failing = tt;
      frugal = c.in-Ok.ensures.frugal;
      frugal_fault = tt;
      needed = tt;
      stopped = tt;
    }

pub returns-in-Unflushed : goal.returns-in-Unflushed
returns-in-Unflushed g c =
    let bytes = c.in-Ok.response.items in
    let (all, failed) = rw (c.in-Unflushed.is, c.deref.ensures.value) at c.send.ensures.sent in
    let whole : take (length bytes) bytes ≡ bytes = take_all (length bytes) bytes (omega arith) in
    record {
      same = c.in-Ok.ensures.same;
      kept = c.in-Ok.ensures.kept;
      served = tt;
      working = tt;
      flushed = tt;
      reading = tt;
      failing = λ first down. absurd (let g : false ≡ true = sym (c.in-Ok.ensures.reading ∙ first) ∙ down in cc);
      frugal = tt;
      frugal_fault = inr c.in-Ok.ensures.frugal;
      needed = λ is. absurd (omega arith);
      stopped = inr (inr (
        refl,
        failed,
        bytes,
        c.in-Ok.ensures.response,
        length bytes,
        omega arith,
        subst (λ l. Appends (g.W.Write.contents (inside c.args.writer.now))
            (g.W.Write.contents (inside c.send.new.writer)) l) (sym whole) all,
      ));
    }

pub returns : goal.returns
returns g c =
    let (failed, k, less, front) = rw (c.in-Cut.is, c.deref.ensures.value) at c.send.ensures.sent in
    record {
      same = c.in-Ok.ensures.same;
      kept = c.in-Ok.ensures.kept;
      served = tt;
      working = tt;
      flushed = tt;
      reading = tt;
      failing = λ first down. absurd (let g : false ≡ true = sym (c.in-Ok.ensures.reading ∙ first) ∙ down in cc);
      frugal = tt;
      frugal_fault = inr c.in-Ok.ensures.frugal;
      needed = λ is. absurd (omega arith);
      stopped = inr (inr (
        refl,
        failed,
        c.in-Ok.response.items,
        c.in-Ok.ensures.response,
        k,
        omega (arith, less),
        front,
      ));
    }
