-- The DELETE statements whose foreign keys take rows of other tables along.
use Rattle.std.proofs.Common.{◌≡◌, true, refl}
use Rattle.sql_forms.specs.Keys.{joined, first_key}
use Rattle.sql_forms.specs.Names.{same_name}
use Rattle.sql_forms.specs.TableKeys.TheVariants.{Enforced}
use Rattle.sqlite.specs.Listing.{understood}
use Rattle.sql_forms.specs.Compute.{everything}
use Rattle.sql_forms.specs.Cascade.{carries, covers}
use Rattle.sql_forms.proofs.Cascades.{IsCascade}
use Rattle.mm_store.specs.Tables.{schema, gpkg_contents, gpkgext_relations, mm_editions}
use Rattle.mm_store.specs.Places.{table_place, mapping_place, edition_place}
use Rattle.mm_store.specs.Compiled as text

delete_table_carries : (carries schema Enforced table_place ≡ true)
    × (covers schema table_place gpkg_contents.tree ≡ true)
unfolding same_name joined first_key
delete_table_carries = (refl, refl)

pub delete_table : IsCascade schema text.delete_table 1 gpkg_contents 1 table_place
unfolding understood everything
delete_table = record {
  compiled = refl;
  plain = (refl, refl);
  placed = refl;
  on = refl;
  carried = delete_table_carries.0;
  covered = delete_table_carries.1;
}

delete_relation_carries : (carries schema Enforced mapping_place ≡ true)
    × (covers schema mapping_place gpkgext_relations.tree ≡ true)
unfolding same_name joined first_key
delete_relation_carries = (refl, refl)

pub delete_relation : IsCascade schema text.delete_relation 5 gpkgext_relations 7 mapping_place
unfolding understood everything
delete_relation = record {
  compiled = refl;
  plain = (refl, refl);
  placed = refl;
  on = refl;
  carried = delete_relation_carries.0;
  covered = delete_relation_carries.1;
}

delete_edition_carries : (carries schema Enforced edition_place ≡ true)
    × (covers schema edition_place mm_editions.tree ≡ true)
unfolding same_name joined first_key
delete_edition_carries = (refl, refl)

pub delete_edition : IsCascade schema text.delete_edition 12 mm_editions 1 edition_place
unfolding understood everything
delete_edition = record {
  compiled = refl;
  plain = (refl, refl);
  placed = refl;
  on = refl;
  carried = delete_edition_carries.0;
  covered = delete_edition_carries.1;
}
