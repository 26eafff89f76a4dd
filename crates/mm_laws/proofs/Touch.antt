-- A change of last_change keeps every rule.
use Rattle.std.proofs.Common.{◌≡◌, ℕ, Option, Some, None, IfSome, refl, sym, ap, ◌∙◌, inl, inr}
use Rattle.std.specs.FinMap.{get, insert}
use Rattle.mm_definitions.specs.Keys.{Text}
use Rattle.mm_definitions.specs.Parts.{Each, Stands}
use Rattle.mm_definitions.specs.Package.{Package, Contents, MatrixSet, ContentsPart, HasKind}
use Rattle.mm_definitions.specs.Bounds.{Profile, IsMoment, IsName}
use Rattle.mm_definitions.specs.Stamp.{IsStamp}
use Rattle.mm_definitions.specs.Rules.{Meets, MayName, DistinctIdentifiers, Suits, IsPlaced, ContentsWithin, IsOrdered}
use Rattle.mm_definitions.specs.Effects.{changed_at, touched_row, touch}
use Rattle.mm_definitions.specs.declared.commands.Kind.{Kind}
use Rattle.mm_definitions.specs.declared.commands.Kind.TheVariants.{Two, Other, Attributes, Media}
use Rattle.mm_definitions.proofs.Parts.{not_none, after_put, each_put, beside_put, stands_after_put}
use Rattle.mm_definitions.proofs.KeyLaws.{texts}

-- the contents rows after the change of one
abbrev pub touched : ContentsPart → Text → Contents → Text → ContentsPart
touched contents table row stamp = insert contents table (changed_at stamp row)

still_placed : (c : Contents) (stamp : Text) (s : Option MatrixSet) → IsPlaced c s → IsPlaced (changed_at stamp c) s
still_placed c stamp None h = absurd h
still_placed c stamp (Some s) h =
    record {
      data_type = h.data_type;
      system = h.system;
      min_x = h.min_x;
      min_y = h.min_y;
      max_x = h.max_x;
      max_y = h.max_y;
    }

still_suits : (kind : Kind) (c : Contents) (stamp : Text) (s : Option MatrixSet) → Suits kind c s
    → Suits kind (changed_at stamp c) s
still_suits Two c stamp s h = still_placed c stamp s h
still_suits Other c stamp s h = still_placed c stamp s h
still_suits Attributes c stamp s h = h
still_suits Media c stamp s h = h

module _ (contents : ContentsPart) (table : Text) (row : Contents) (was : get contents table ≡ Some row) (stamp : Text)
  where
    -- an entry after the change is one from before, changed or as it was
    from_before : (q : Text) (c : Contents) → get (touched contents table row stamp) q ≡ Some c
        → (b : Contents) × (get contents q ≡ Some b) × (c.identifier ≡ b.identifier)
    from_before q c e = elim (after_put texts contents table (changed_at stamp row) q c e) as
        (λ _. (b : Contents) × (get contents q ≡ Some b) × (c.identifier ≡ b.identifier)) [
          | inl s ↦ (row, ap (get contents) s.0 ∙ was, ap (λ (d : Contents). d.identifier) (sym s.1))
          | inr n ↦ (c, n.1, refl)
        ]

    -- what holds of each row and doesn't look at last_change still holds
    each_touched : (P : Text → Contents → Type 0) → ((q : Text) (b : Contents) → P q b → P q (changed_at stamp b))
        → Each contents P
        → Each (touched contents table row stamp) P
    each_touched P same h = each_put texts contents table (changed_at stamp row) P h (same table row (h table row was))

    still_absent : (q : Text) → get contents q ≡ None → get (touched contents table row stamp) q ≡ None
    still_absent q none = beside_put texts contents table (changed_at stamp row) q
        (λ e. not_none was (sym (ap (get contents) e) ∙ none)) ∙ none

    still_stands : (q : Text) → Stands contents q → Stands (touched contents table row stamp) q
    still_stands = stands_after_put texts contents table (changed_at stamp row)

    distinct : DistinctIdentifiers contents → DistinctIdentifiers (touched contents table row stamp)
    distinct h q c e r d f same =
        let first = from_before q c e in
        let second = from_before r d f in
        h q first.0 first.1 r second.0 second.1 (sym first.2 ∙ same ∙ second.2)

touched_row_keeps : (profile : Profile) (p : Package) (table stamp : Text) (moment : ℕ) → IsMoment moment
    → IsStamp moment stamp
    → (row : Option Contents) → get p.contents table ≡ row → Meets profile p
    → Meets profile (touched_row p table stamp row)
touched_row_keeps profile p table stamp moment low is None was h = h
touched_row_keeps profile p table stamp moment low is (Some row) was h =
    let each = each_touched p.contents table row was stamp in
    record {
      q1 = h.q1;
      q2 = record {
        of_contents = each (λ t c. IfSome c.system (MayName p.systems p.kinds t)) (λ _ _ x. x) h.q2.of_contents;
        of_sets = h.q2.of_sets;
      };
      q3 = distinct p.contents table row was stamp h.q3;
      q4 = record {
        of_tables = each (λ q _. IsName q) (λ _ _ x. x) h.q4.of_tables;
        of_mappings = λ q r e. (
          (h.q4.of_mappings q r e).0,
          still_absent p.contents table row was stamp q
              (h.q4.of_mappings q r e).1,
        );
        of_editions = h.q4.of_editions;
      };
      q5 = record {
        registered = each (λ q c. (kind : Kind) × HasKind p.kinds q kind × Suits kind c (get p.sets q))
            (λ q b x. (x.0, x.1, still_suits x.0 b stamp (get p.sets q) x.2)) h.q5.registered;
        of_kinds = λ q k e. still_stands p.contents table row was stamp q (h.q5.of_kinds q k e);
        of_sets = λ q k e. still_stands p.contents table row was stamp q (h.q5.of_sets q k e);
      };
      q6 = record {
        of_sets = h.q6.of_sets;
        of_contents = each (λ _ c. IsOrdered c.min_x c.max_x × IsOrdered c.min_y c.max_y) (λ _ _ x. x) h.q6.of_contents;
      };
      q7 = h.q7;
      q8 = h.q8;
      q9 = h.q9;
      q10 = h.q10;
      q11 = h.q11;
      q12 = h.q12;
      q13 = h.q13;
      q14 = h.q14;
      q15 = h.q15;
      q16 = record {
        systems = h.q16.systems;
        contents = each (ContentsWithin profile) (λ _ b x. record {
          table = x.table;
          data_type = x.data_type;
          identifier = x.identifier;
          description = x.description;
          last_change = (moment, low, is);
          min_x = x.min_x;
          min_y = x.min_y;
          max_x = x.max_x;
          max_y = x.max_y;
          system = x.system;
        }) h.q16.contents;
        kinds = h.q16.kinds;
        sets = h.q16.sets;
        matrices = h.q16.matrices;
        extensions = h.q16.extensions;
        tiles = h.q16.tiles;
        rows = h.q16.rows;
        media = h.q16.media;
        relations = h.q16.relations;
        pairings = h.q16.pairings;
        editions = h.q16.editions;
        pieces = h.q16.pieces;
      };
    }

-- a change of one table's last_change keeps all the rules
pub touch_keeps : (profile : Profile) (p : Package) (table stamp : Text) (moment : ℕ) → IsMoment moment
    → IsStamp moment stamp → Meets profile p
    → Meets profile (touch p table stamp)
touch_keeps profile p table stamp moment low is h = touched_row_keeps profile p table stamp moment low is
    (get p.contents table) refl h
