use Rattle.std.proofs.Common.{codes, refl, Some}
use Rattle.mm_definitions.specs.Bounds.{current}
use Rattle.mm_definitions.specs.Records as forms
use Rattle.mm_definitions.proofs.ReadingFacts.{texts_of}
use Rattle.mm_base.proofs.RecordFacts.{command_arm, edit_arm, rest_of}
use Rattle.mm_base.proofs.records.command_in.Goals as goal

pub returns-in-stage : goal.returns-in-stage
returns-in-stage c = command_arm _ c.args.fields.now (codes "stage") (forms.stage_form current (texts_of (rest_of c.args.fields.now))) c.in-len1-up.len_at_least c.in-stage.is refl c.read_stage.ensures

pub returns-in-srs : goal.returns-in-srs
returns-in-srs c = command_arm _ c.args.fields.now (codes "srs") (Some forms.srs_form) c.in-len1-up.len_at_least c.in-srs.is refl c.read_srs.ensures

pub returns-in-pyramid : goal.returns-in-pyramid
returns-in-pyramid c = command_arm _ c.args.fields.now (codes "pyramid") (Some (forms.pyramid_form current)) c.in-len1-up.len_at_least c.in-pyramid.is refl c.read_pyramid.ensures

pub returns-in-table : goal.returns-in-table
returns-in-table c = command_arm _ c.args.fields.now (codes "table") (Some forms.table_form) c.in-len1-up.len_at_least c.in-table.is refl c.read_table.ensures

pub returns-in-drop : goal.returns-in-drop
returns-in-drop c = command_arm _ c.args.fields.now (codes "drop") (Some forms.name_form) c.in-len1-up.len_at_least c.in-drop.is refl c.read_drop.ensures

pub returns-in-relation : goal.returns-in-relation
returns-in-relation c = command_arm _ c.args.fields.now (codes "relation") (Some forms.relation_form) c.in-len1-up.len_at_least c.in-relation.is refl c.read_relation.ensures

pub returns-in-text : goal.returns-in-text
returns-in-text c = command_arm _ c.args.fields.now (codes "relation-drop") (Some forms.name_form) c.in-len1-up.len_at_least c.in-text.is refl c.read_relation_drop.ensures

pub returns-in-edition : goal.returns-in-edition
returns-in-edition c = command_arm _ c.args.fields.now (codes "edition") (Some forms.name_form) c.in-len1-up.len_at_least c.in-edition.is refl c.read_edition.ensures

pub returns-in-discard : goal.returns-in-discard
returns-in-discard c = command_arm _ c.args.fields.now (codes "discard") (Some forms.name_form) c.in-len1-up.len_at_least c.in-discard.is refl c.read_discard.ensures

pub returns-in-publish : goal.returns-in-publish
returns-in-publish c = command_arm _ c.args.fields.now (codes "publish") (Some forms.name_form) c.in-len1-up.len_at_least c.in-publish.is refl c.read_publish.ensures

pub returns-in-rehearse : goal.returns-in-rehearse
returns-in-rehearse c = command_arm _ c.args.fields.now (codes "rehearse") (Some forms.name_form) c.in-len1-up.len_at_least c.in-rehearse.is refl c.read_rehearse.ensures

pub returns-in_default-word : goal.returns-in_default-word
returns-in_default-word c =
    let n = c.in_default-word in
    edit_arm _ c.args.fields.now c.in-len1-up.len_at_least n.not-stage (
      n.not-srs,
      (
        n.not-pyramid,
        (
          n.not-table,
          (
            n.not-drop,
            (
              n.not-relation,
              (
                n.not-text,
                (n.not-edition, (n.not-discard, (n.not-publish, (n.not-rehearse, tt)))),
              ),
            ),
          ),
        ),
      ),
    )
    c.read_edit.ensures
