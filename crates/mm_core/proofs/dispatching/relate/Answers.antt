use Rattle.mm_core.proofs.dispatching.relate.Goals as goal

pub returns-in-Relation : goal.returns-in-Relation
returns-in-Relation g c =
    rw c.in-Relation.is c.add_relation.ensures

pub returns-in-RelationDrop : goal.returns-in-RelationDrop
returns-in-RelationDrop g c =
    rw c.in-RelationDrop.is c.drop_relation.ensures
