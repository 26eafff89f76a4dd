use Rattle.std.specs.Prelude.{⊤}
use Rattle.std.proofs.lemmas.Result.{err_from_is_err_and}
use Rattle.sqlite.specs.Held.{state}
use Rattle.mm_rules.specs.Parts.{ContentsSystems, SetSystems}
use Rattle.mm_definitions.specs.Rules.{NamedSystems}
use Rattle.mm_walk.proofs.Compose.{goes_on, stops, gives_up}
use Rattle.mm_rules.proofs.contents.named_systems.Goals as goal

pub returns-then-branch : goal.returns-then-branch
returns-then-branch g c profile =
    goes_on profile (state g.S.Store c.args.conn.now) (state g.S.Store c.contents_systems.new.conn)
    (state g.S.Store c.set_systems.new.conn) (λ _. ⊤) (λ p. ContentsSystems p) (λ p. SetSystems p)
    (λ p. NamedSystems p.systems p.contents p.kinds p.sets)
    (λ p. (λ a. record { of_contents = a.0; of_sets = a.1 }, λ r. (r.of_contents, r.of_sets)))
    c.contents_systems.result c.set_systems.result c.in_ok-contents_systems.was c.if-branch.true
    (c.contents_systems.ensures profile) (c.set_systems.ensures profile)

pub returns-else-branch : goal.returns-else-branch
returns-else-branch g c profile =
    stops profile (state g.S.Store c.args.conn.now) (state g.S.Store c.contents_systems.new.conn) (λ _. ⊤)
    (λ p. ContentsSystems p) (λ p. SetSystems p) (λ p. NamedSystems p.systems p.contents p.kinds p.sets)
    (λ p. (λ a. record { of_contents = a.0; of_sets = a.1 }, λ r. (r.of_contents, r.of_sets)))
    c.contents_systems.result c.in_ok-contents_systems.was c.if-branch.false (c.contents_systems.ensures profile)

pub returns-in_err-contents_systems : goal.returns-in_err-contents_systems
returns-in_err-contents_systems g c profile =
    let p = err_from_is_err_and c.from_residual.result c.from_residual.ensures.1 in
    rw (p.1, p.2) (gives_up profile (state g.S.Store c.args.conn.now) (state g.S.Store c.contents_systems.new.conn)
    (λ _. ⊤) (λ _. ⊤) (λ p. ContentsSystems p) (λ p. NamedSystems p.systems p.contents p.kinds p.sets)
    c.contents_systems.result c.in_err-contents_systems.field-0.0 c.in_err-contents_systems.was
    (c.contents_systems.ensures profile))
