use Rattle.std.proofs.Common.{◌≡◌, None, sym, ap, ◌∙◌}
use Rattle.std.proofs.Math.Facts.{to_z-of_z}
use Rattle.std.specs.FinMap.{get}
use Rattle.std.specs.Result.{result_err}
use Rattle.mm_definitions.specs.Effects.{with_pyramid, with_zoom_row}
use Rattle.mm_definitions.specs.Package.{Box, zoom_extension}
use Rattle.mm_definitions.proofs.RefusalFacts.{refused_for, accepted_for}
use Rattle.mm_layout.specs.Rows.{IsUnregistered}
use Rattle.mm_layout.proofs.Refusing.{pyramid_is_new}
use Rattle.mm_layout.proofs.Registered.{unregistered, no_zoom_row}
use Rattle.mm_store.proofs.Going.{changes_then, change_where}
use Rattle.mm_layout.proofs.Lending.{refuses, command_failed, lends, lends_not}
use Rattle.mm_layout.proofs.pyramids.add_pyramid.Goals as goal

pub returns-in-Err : goal.returns-in-Err
returns-in-Err g c =
    let r = c.ranges in
    rw (← c.as_str-table.ensures.text)
    (rw c.refused.ensures (refuses (rw (to_z-of_z r.srs) at c.in_ok-extent.ensures.refusal)
    (λ profile p meets says. refused_for _ c.in-Err.reason (sym (says c.args.step) ∙ ap result_err c.in-Err.is))))

pub returns-in_err-extent : goal.returns-in_err-extent
returns-in_err-extent g c =
    rw (← c.as_str-table.ensures.text) (command_failed c.in_err-extent.ensures.refusal c.from_residual.ensures.1)

pub returns-in_err-insert_pyramid : goal.returns-in_err-insert_pyramid
returns-in_err-insert_pyramid g c =
    let a = c.args in
    let r = c.ranges in
    let table = c.as_str-table.result.now in
    rw (← c.as_str-table.ensures.text)
    (lends_not (rw (to_z-of_z r.srs) at c.in_ok-extent.ensures.refusal) c.in_err-insert_pyramid.ensures
    (λ profile p meets says. unregistered profile p meets table
    (pyramid_is_new p table a.identifier.now a.srs a.bounds.now.min_x a.bounds.now.min_y a.bounds.now.max_x
    a.bounds.now.max_y a.step (sym (ap result_err c.in-Ok.is) ∙ says a.step)))
    c.from_residual-in_err-insert_pyramid.ensures.1)

pub returns-in-Two : goal.returns-in-Two
returns-in-Two g c =
    let a = c.args in
    let r = c.ranges in
    let bounds : Box = record {
      min_x = a.bounds.now.min_x;
      min_y = a.bounds.now.min_y;
      max_x = a.bounds.now.max_x;
      max_y = a.bounds.now.max_y;
    } in
    let is : c.in-Ok.extent ≡ bounds = rw c.in-Ok.is at c.in_ok-extent.ensures.extent in
    let table = c.as_str-table.result.now in
    rw (← c.as_str-table.ensures.text)
    (lends (rw (to_z-of_z r.srs) at c.in_ok-extent.ensures.refusal)
    (rw (to_z-of_z r.srs, is) at c.in_ok-insert_pyramid.ensures)
    (λ profile p meets says. let none = sym (ap result_err c.in-Ok.is)
    ∙ says a.step in (
      unregistered profile p meets table
          (pyramid_is_new p table a.identifier.now a.srs a.bounds.now.min_x a.bounds.now.min_y a.bounds.now.max_x
          a.bounds.now.max_y a.step none),
      accepted_for _ (sym none),
      ap
          (with_zoom_row (with_pyramid p table a.identifier.now a.srs bounds a.step a.last_change.now) table)
          c.in-Two.is,
    )))

pub returns-in_ok-insert_zoom_row-in-Other : goal.returns-in_ok-insert_zoom_row-in-Other
returns-in_ok-insert_zoom_row-in-Other g c =
    let a = c.args in
    let r = c.ranges in
    let bounds : Box = record {
      min_x = a.bounds.now.min_x;
      min_y = a.bounds.now.min_y;
      max_x = a.bounds.now.max_x;
      max_y = a.bounds.now.max_y;
    } in
    let is : c.in-Ok.extent ≡ bounds = rw c.in-Ok.is at c.in_ok-extent.ensures.extent in
    let table = c.as_str-table.result.now in
    rw (← c.as_str-table.ensures.text)
    (lends (rw (to_z-of_z r.srs) at c.in_ok-extent.ensures.refusal)
    (changes_then (change_where (λ p. IsUnregistered table p × (get p.extensions (zoom_extension table) ≡ None))
    (rw (to_z-of_z r.srs, is) at c.in_ok-insert_pyramid.ensures) (λ p new. new.0))
    c.in_ok-insert_zoom_row-in-Other.ensures (λ p new. new.1))
    (λ profile p meets says. let none = sym (ap result_err c.in-Ok.is) ∙ says a.step in let new =
    pyramid_is_new p table a.identifier.now a.srs a.bounds.now.min_x a.bounds.now.min_y a.bounds.now.max_x
    a.bounds.now.max_y a.step none in (
      (unregistered profile p meets table new, no_zoom_row profile p meets table new),
      accepted_for _ (sym none),
      ap (with_zoom_row
          (with_pyramid p table a.identifier.now a.srs bounds a.step a.last_change.now) table) c.in-Other.is,
    )))

pub returns-in_err-insert_zoom_row-in-Other : goal.returns-in_err-insert_zoom_row-in-Other
returns-in_err-insert_zoom_row-in-Other g c =
    let a = c.args in
    let r = c.ranges in
    let table = c.as_str-table.result.now in
    rw (← c.as_str-table.ensures.text)
    (lends_not (rw (to_z-of_z r.srs) at c.in_ok-extent.ensures.refusal)
    (changes_then (change_where (λ p. IsUnregistered table p × (get p.extensions (zoom_extension table) ≡ None))
    (rw (to_z-of_z r.srs) at c.in_ok-insert_pyramid.ensures) (λ p new. new.0)) c.in_err-insert_zoom_row-in-Other.ensures
    (λ p new. new.1))
    (λ profile p meets says. let none = sym (ap result_err c.in-Ok.is) ∙ says a.step in let new =
    pyramid_is_new p table a.identifier.now a.srs a.bounds.now.min_x a.bounds.now.min_y a.bounds.now.max_x
    a.bounds.now.max_y a.step none in (unregistered profile p meets table new, no_zoom_row profile p meets table new))
    c.from_residual-in_err-insert_zoom_row-in-Other.ensures.1)
