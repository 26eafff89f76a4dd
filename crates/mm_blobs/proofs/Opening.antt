-- From a package that a transaction sees to how it is kept, and back.
use Rattle.std.proofs.Common.{◌≡◌, ◌⊎◌, inl, inr, ℤ, Some, true, refl}
use Rattle.std.specs.FinMap.{empty, get}
use Rattle.std.proofs.lemmas.Bool.{both_ways}
use Rattle.sqlite.specs.State.{State}
use Rattle.mm_definitions.specs.Bounds.{Profile}
use Rattle.mm_definitions.specs.Package.{Package}
use Rattle.mm_definitions.proofs.Parts.{true_or_false}
use Rattle.mm_store.specs.Blobs.{Blob}
use Rattle.mm_store.specs.Kept.{Kept, Spare, IsNamed}
use Rattle.mm_store.specs.Stands.{Ground, IsInsideBut}
use Rattle.sqlite.specs.Tree.{Trees}
use Rattle.mm_store.specs.Kept.{HoldsKept}
use Rattle.mm_blobs.specs.Views.{View, IsSeen}
use Rattle.mm_blobs.proofs.Moving.{inside_looser}
use Rattle.mm_blobs.proofs.Keeping.{kept_in, holds_still}

-- it is kept somehow; where the store is not open, nothing is said
pub opens : (spare : Spare) (profile : Profile) (s : State) (ground : Ground) (p : Package)
    → IsInsideBut spare profile s ground p
    → (kept : Kept) × IsSeen spare profile s ground (record { content = p; kept = kept })
opens spare profile s ground p it = elim (true_or_false s.is_open) [
  | inl up ↦
      let at = it.reads up in (
        at.stands.holds.kept,
        record {
          mode = it.mode;
          back = it.back;
          reads = λ _. record {
            schema_is = at.schema_is;
            sound = at.stands.sound;
            rows = at.stands.rows;
            holds = (at.stands.holds, refl);
          };
        },
      )
  | inr down ↦ (
    record { tiles = empty; media = empty; pieces = empty; shelf = empty },
    record
        { mode = it.mode; back = it.back; reads = λ up. absurd (both_ways _ down up) },
  )
]

pub closes : (spare : Spare) (profile : Profile) (s : State) (ground : Ground) (x : View)
    → IsSeen spare profile s ground x
    → IsInsideBut spare profile s ground x.content
closes spare profile s ground x it = record {
  mode = it.mode;
  back = it.back;
  reads = λ up. let at = it.reads up in record
      { schema_is = at.schema_is; stands = record { sound = at.sound; rows = at.rows; holds = at.holds.0 } };
}

-- ---- where more may be spared

keeps_looser : (spare more : Spare) (tables : Trees) (x : Kept) (p : Package)
    → ((z : ℤ) → spare z ≡ true → more z ≡ true) → HoldsKept spare tables x p
    → HoldsKept more tables x p
keeps_looser spare more tables x p still h = record {
  tiles = h.tiles;
  media = h.media;
  pieces = h.pieces;
  blobs = h.blobs;
  tiles_told = h.tiles_told;
  media_told = h.media_told;
  pieces_told = h.pieces_told;
  are = h.are;
  named = λ z b is. elim (h.named z b is) [ inl named ↦ inl named | inr spared ↦ inr (still z spared) ];
}

pub seen_looser : (spare more : Spare) (profile : Profile) (s : State) (ground : Ground) (x : View)
    → ((z : ℤ) → spare z ≡ true → more z ≡ true)
    → IsSeen spare profile s ground x → IsSeen more profile s ground x
seen_looser spare more profile s ground x still it =
    inside_looser profile spare more s ground x
    (λ tables h. holds_still spare more profile.version tables x h
    (keeps_looser spare more tables x.kept x.content still (kept_in spare spare profile.version tables x h))) it

-- it is seen as well where other blobs may be spared, as long as each is named or may
pub seen_named : (spare more : Spare) (profile : Profile) (s : State) (ground : Ground) (x : View)
    → ((z : ℤ) (b : Blob) → get x.kept.shelf z ≡ Some b → IsNamed x.kept z ⊎ (more z ≡ true))
    → IsSeen spare profile s ground x
    → IsSeen more profile s ground x
seen_named spare more profile s ground x named it =
    inside_looser profile spare more s ground x
    (λ tables h. let k = kept_in spare spare profile.version tables x h in
    holds_still spare more profile.version tables x h
    (record {
      tiles = k.tiles;
      media = k.media;
      pieces = k.pieces;
      blobs = k.blobs;
      tiles_told = k.tiles_told;
      media_told = k.media_told;
      pieces_told = k.pieces_told;
      are = k.are;
      named = named;
    })) it
