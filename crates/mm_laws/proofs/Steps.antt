-- A step keeps the rules, whatever the command.
use Rattle.std.proofs.Common.{◌≡◌, ℕ, ◌&&◌, List, [], ◌∷◌, ◌++◌, Option, Some, None, cond, refl, ap, ◌∙◌, is_err}
use Rattle.mm_definitions.specs.Keys.{Text}
use Rattle.mm_definitions.specs.Package.{Package}
use Rattle.mm_definitions.specs.Bounds.{Profile, IsMoment}
use Rattle.mm_definitions.specs.Within.{IsWithin}
use Rattle.mm_definitions.specs.Stamp.{IsStamp, stamp}
use Rattle.mm_definitions.specs.Rules.{Meets}
use Rattle.mm_definitions.specs.Conditions.{Reasons, least, smaller, own_reasons}
use Rattle.mm_definitions.specs.Step.{reasons, is_publishing, publishing, refused_piece, refusal_of, done}
use Rattle.mm_definitions.specs.Step.{unless_refused, step}
use Rattle.mm_definitions.specs.Runs.{Call, run}
use Rattle.mm_definitions.specs.declared.commands.Command.{Command}
use Rattle.mm_definitions.specs.declared.commands.Command.TheVariants as commands
use Rattle.mm_laws.specs.Laws.{AllWithin}
use Rattle.mm_laws.proofs.Reasons.{NoneHolds, none_holds}
use Rattle.mm_laws.proofs.Systems.{srs}
use Rattle.mm_laws.proofs.Tables.{table_put, pyramid_put}
use Rattle.mm_laws.proofs.Dropped.{drop}
use Rattle.mm_laws.proofs.Relations.{relation_put, relation_drop, edition_put, discard}
use Rattle.mm_laws.proofs.Staged.{stage}
use Rattle.mm_laws.proofs.Published.{piece_keeps, publish}
use Rattle.mm_laws.proofs.StampFound.{stamp_is}

none_of_the_first : (rs more : Reasons) → NoneHolds (rs ++ more) → NoneHolds rs
none_of_the_first [] more h = tt
none_of_the_first (r ∷ rs) more h = (h.0, none_of_the_first rs more h.1)

least_none : (rs : Reasons) → NoneHolds rs → least rs ≡ None
least_none [] h = refl
least_none (r ∷ rs) h = ap (λ b. smaller (cond b (Some r.0) None) (least rs)) h.0 ∙ least_none rs h.1

-- what an accepted command gives
pub done_keeps : (c : Command) (profile : Profile) (p : Package) (moment : ℕ) (stamp : Text) → Meets profile p
    → IsWithin profile c → IsMoment moment
    → IsStamp moment stamp
    → least (own_reasons p c) ≡ None → Meets profile (done p c stamp)
done_keeps (commands.Srs id name organization organization_id definition description) = srs id name organization
    organization_id definition description
done_keeps (commands.Pyramid table identifier system min_x min_y max_x max_y step) = pyramid_put table identifier system
    min_x min_y max_x max_y step
done_keeps (commands.Table table kind identifier) = table_put table kind identifier
done_keeps (commands.Drop table) = drop table
done_keeps (commands.Relation mapping base related name) = relation_put mapping base related name
done_keeps (commands.RelationDrop mapping) = relation_drop mapping
done_keeps (commands.Edition name) = edition_put name
done_keeps (commands.Discard name) = discard name
done_keeps (commands.Stage edition number q) = stage edition number q
done_keeps (commands.Publish edition) = λ profile p moment stamp h within low is none. publish profile moment stamp low
    is edition within p h
done_keeps (commands.Rehearse edition) = λ profile p moment stamp h within low is none. h
done_keeps (commands.Edit q) = piece_keeps q

pub step_keeps : (profile : Profile) (p : Package) (c : Command) (moment : ℕ) → Meets profile p → IsWithin profile c
    → IsMoment moment
    → Meets profile (step p c moment)
step_keeps profile p c moment h within low = decided (least (reasons p c)) refl where
  decided : (v : Option ℕ) → least (reasons p c) ≡ v
      → Meets profile (unless_refused (refusal_of v (refused_piece (publishing p c []))) (done p c (stamp moment)) p)
  decided None e =
      done_keeps c profile p moment (stamp moment) h within low (stamp_is moment low)
      (least_none (own_reasons p c) (none_of_the_first (own_reasons p c)
      ((53, is_publishing p c && is_err (publishing p c [])) ∷ []) (none_holds (reasons p c) e)))
  decided (Some n) e = h

-- over a whole run
pub run_keeps : (profile : Profile) (calls : List Call) (p : Package) → Meets profile p → AllWithin profile calls
    → Meets profile (run p calls)
run_keeps profile [] p h within = h
run_keeps profile (c ∷ cs) p h within =
    run_keeps profile cs (step p c.command c.moment) (step_keeps profile p c.command c.moment h within.0.0 within.0.1)
    within.1
