use Rattle.mm_laws.proofs.Closed.{refused_alike}
use Rattle.mm_laws.proofs.refusals.a_refusal_needs_no_moment.Goals as goal

pub returns : goal.returns
returns c = refused_alike
