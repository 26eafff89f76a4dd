use Rattle.mm_relate.proofs.relations.add_relation.Goals as goal

pub returns : goal.returns
returns g c = rw (c.as_str.ensures.text, c.as_str-2.ensures.text, c.as_str-3.ensures.text) at c.relate.ensures
