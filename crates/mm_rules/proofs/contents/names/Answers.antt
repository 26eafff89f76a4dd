use Rattle.std.specs.Prelude.{⊤}
use Rattle.sqlite.specs.Held.{state}
use Rattle.mm_definitions.specs.Rules.{Limits, ProperNames}
use Rattle.mm_rules.specs.Parts.{MappingNames}
use Rattle.mm_walk.proofs.Compose.{same_rule}
use Rattle.mm_rules.proofs.contents.names.Goals as goal

pub returns : goal.returns
returns g c profile =
    same_rule profile (state g.S.Store c.args.conn.now) (state g.S.Store c.mapping_names.new.conn) (λ _. ⊤)
    (λ p. Limits profile p) MappingNames (λ p. ProperNames p.contents p.relations p.editions) (λ p limits. tt)
    (λ p limits. (
      λ apart. record {
        of_tables = λ k c is. (limits.contents k c is).table;
        of_mappings = λ k r is. ((limits.relations k r is).mapping, apart k r is);
        of_editions = λ k s is. (limits.editions k s is).0;
      },
      λ names k r is. (names.of_mappings k r is).1,
    )) c.mapping_names.result (c.mapping_names.ensures profile)
