use Rattle.std.proofs.Common.{◌≡◌, ◌∙◌, inl, inr, refl, sym, arith}
use Rattle.mm_desk.proofs.desk.answer_path.Goals as goal

pub returns-in-Err-clause-answered : goal.returns-in-Err-clause-answered
returns-in-Err-clause-answered g c = (
  g.met.D.Desk.stays c.args.desk.now c.show.new.desk c.show.ensures.same c.show.ensures.kept,
  c.in-Err.ensures.needed,
  inl (c.in-Err.ensures.fault, refl),
)

pub returns-in-Ok-sent-clause-answered : goal.returns-in-Ok-sent-clause-answered
returns-in-Ok-sent-clause-answered g c =
    let sent = rw (c.in-Ok-sent.is, c.deref.ensures.value) at c.sent.ensures.told in (
      g.met.D.Desk.stays c.args.desk.now c.show.new.desk c.show.ensures.same c.show.ensures.kept,
      c.in-Ok.response.items,
      sent,
      c.in-Ok.ensures.response,
    )

pub returns-clause-answered : goal.returns-clause-answered
returns-clause-answered g c =
    let cut = rw (c.in-Err-sent.is, c.deref.ensures.value) at c.sent.ensures.told in (
      g.met.D.Desk.stays c.args.desk.now c.show.new.desk c.show.ensures.same c.show.ensures.kept,
      λ other. absurd (let f : 97 ≡ 92 = sym cut.0 ∙ other in omega (arith, f)),
      inr (c.in-Ok.response.items, c.in-Ok.ensures.response, cut),
    )
