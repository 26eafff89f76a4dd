-- A system that is put keeps the rules.
use Rattle.std.proofs.Common.{ℤ, pos, negsuc, Option, Some, None, IfSome, inl}
use Rattle.std.specs.FinMap.{insert}
use Rattle.mm_definitions.specs.Keys.{Text}
use Rattle.mm_definitions.specs.Package.{System}
use Rattle.mm_definitions.specs.Rules.{MayName, SystemWithin}
use Rattle.mm_definitions.specs.Conditions.{own_reasons}
use Rattle.mm_definitions.specs.declared.commands.Command.TheVariants.{Srs}
use Rattle.mm_definitions.proofs.Parts.{each_put, stands_after_put, kept_by_new}
use Rattle.mm_definitions.proofs.KeyLaws.{numbers}
use Rattle.mm_laws.proofs.Kept.{Keeps}
use Rattle.mm_laws.proofs.Reasons.{none_holds}

pub if_some_more : {A : Type 0} (v : Option A) (P Q : A → Type 0) → ((x : A) → P x → Q x) → IfSome v P → IfSome v Q
if_some_more None P Q more h = tt
if_some_more (Some x) P Q more h = more x h

pub srs : (id : ℤ) (name organization : Text) (organization_id : ℤ) (definition description : Text)
    → Keeps (Srs id name organization organization_id definition description)
srs id name organization organization_id definition description profile p moment stamp h within low is none =
    let new = (none_holds (own_reasons p (Srs id name organization organization_id definition description)) none).0 in
    let system : System = record {
      name = name;
      organization = organization;
      organization_id = organization_id;
      definition = definition;
      description = description;
    } in
    let still = kept_by_new numbers p.systems id system new in
    let stands = stands_after_put numbers p.systems id system in
    record {
      q1 = record {
        geographic_stands = still (pos 4326) _ h.q1.geographic_stands;
        cartesian_stands = still (negsuc 0) _ h.q1.cartesian_stands;
        undefined_stands = still (pos 0) _ h.q1.undefined_stands;
      };
      q2 = record {
        of_contents = λ q c e. if_some_more c.system (MayName p.systems p.kinds q)
            (MayName (insert p.systems id system) p.kinds q) (λ s m. (stands s m.0, m.1)) (h.q2.of_contents q c e);
        of_sets = λ q s e. (stands s.system (h.q2.of_sets q s e).0, (h.q2.of_sets q s e).1);
      };
      q3 = h.q3;
      q4 = h.q4;
      q5 = h.q5;
      q6 = h.q6;
      q7 = h.q7;
      q8 = h.q8;
      q9 = h.q9;
      q10 = h.q10;
      q11 = h.q11;
      q12 = h.q12;
      q13 = h.q13;
      q14 = h.q14;
      q15 = h.q15;
      q16 = record {
        systems = each_put numbers p.systems id system SystemWithin h.q16.systems
            (record {
              numbers = inl (within.0, within.3);
              name = within.1;
              organization = within.2;
              definition = within.4;
              description = within.5;
            });
        contents = h.q16.contents;
        kinds = h.q16.kinds;
        sets = h.q16.sets;
        matrices = h.q16.matrices;
        extensions = h.q16.extensions;
        tiles = h.q16.tiles;
        rows = h.q16.rows;
        media = h.q16.media;
        relations = h.q16.relations;
        pairings = h.q16.pairings;
        editions = h.q16.editions;
        pieces = h.q16.pieces;
      };
    }
