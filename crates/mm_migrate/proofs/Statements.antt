-- The forms of the four statements.
use Rattle.std.proofs.Common.{[], refl}
use Rattle.sqlite.specs.Listing.{understood}
use Rattle.sql_forms.specs.Compute.{everything}
use Rattle.sql_forms.proofs.Updates.{IsUpdate}
use Rattle.mm_store.specs.Tables.{schema, gpkg_contents, gpkg_tile_matrix_set, gpkg_tile_matrix, mm_profile}
use Rattle.mm_migrate.specs.Texts as text

pub contents : IsUpdate schema text.scale_contents 1 gpkg_contents [] text.contents_sets
unfolding understood everything
contents = record { compiled = refl; plain = (refl, refl); placed = refl; idle = λ moves. refl; none = refl }

pub sets : IsUpdate schema text.scale_matrix_sets 2 gpkg_tile_matrix_set [] text.set_sets
unfolding understood everything
sets = record { compiled = refl; plain = (refl, refl); placed = refl; idle = λ moves. refl; none = refl }

pub matrices : IsUpdate schema text.scale_matrices 3 gpkg_tile_matrix [] text.matrix_sets
unfolding understood everything
matrices = record { compiled = refl; plain = (refl, refl); placed = refl; idle = λ moves. refl; none = refl }

pub version : IsUpdate schema text.set_version 6 mm_profile [] text.version_sets
unfolding understood everything
version = record { compiled = refl; plain = (refl, refl); placed = refl; idle = λ moves. refl; none = refl }
