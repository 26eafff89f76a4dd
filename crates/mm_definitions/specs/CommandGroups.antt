-- The commands in groups, by what they change.
use Rattle.std.specs.Prelude.{Bool, true, false}
use Rattle.mm_definitions.specs.declared.commands.Command.{Command}
use Rattle.mm_definitions.specs.declared.commands.Command.TheVariants as commands

-- it changes reference systems or tables
abbrev pub is_layout_change : Command → Bool
is_layout_change (commands.Srs id name organization organization_id definition description) = true
is_layout_change (commands.Table table kind identifier) = true
is_layout_change (commands.Drop table) = true
is_layout_change _ = false

-- it lays out a pyramid
abbrev pub lays_out_pyramid : Command → Bool
lays_out_pyramid (commands.Pyramid table identifier srs min_x min_y max_x max_y step) = true
lays_out_pyramid _ = false

-- it changes relations
abbrev pub is_relation_change : Command → Bool
is_relation_change (commands.Relation mapping base related name) = true
is_relation_change (commands.RelationDrop mapping) = true
is_relation_change _ = false

-- it changes an edition that is not published yet, and no content
abbrev pub prepares_edition : Command → Bool
prepares_edition (commands.Edition name) = true
prepares_edition (commands.Discard name) = true
prepares_edition (commands.Stage edition number piece) = true
prepares_edition _ = false

-- it changes nothing, whatever it is answered
abbrev pub rehearses : Command → Bool
rehearses (commands.Rehearse edition) = true
rehearses _ = false

-- it opens, fills, discards, publishes or rehearses an edition
abbrev pub works_on_editions : Command → Bool
works_on_editions (commands.Edition name) = true
works_on_editions (commands.Discard name) = true
works_on_editions (commands.Stage edition number piece) = true
works_on_editions (commands.Publish edition) = true
works_on_editions (commands.Rehearse edition) = true
works_on_editions _ = false
