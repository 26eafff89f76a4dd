use Rattle.mm_definitions.specs.Bounds.{current}
use Rattle.mm_edition.proofs.Tries.{publish_tried}
use Rattle.mm_core.proofs.Trying.{tries, tries_unstamped}
use Rattle.mm_core.proofs.dispatching.run_command.Goals as goal

pub returns-in-Srs : goal.returns-in-Srs
returns-in-Srs g c = tries c.lay_out.ensures

pub returns-in-Pyramid : goal.returns-in-Pyramid
returns-in-Pyramid g c = tries c.lay_out_pyramid.ensures

pub returns-in-Edit : goal.returns-in-Edit
returns-in-Edit g c = rw c.in-Edit.is c.edit.ensures

pub returns-in-Relation : goal.returns-in-Relation
returns-in-Relation g c = tries_unstamped c.relate.ensures

pub returns-in-Edition : goal.returns-in-Edition
returns-in-Edition g c = tries_unstamped c.prepare_edition.ensures

pub returns-in-Publish : goal.returns-in-Publish
returns-in-Publish g c = record {
  same = c.publish.ensures.attempt.same;
  tried = λ moment stamped. rw c.in-Publish.is (publish_tried c.publish.ensures current moment stamped);
}
