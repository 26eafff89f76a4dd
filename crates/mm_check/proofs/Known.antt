-- How many bytes the tiles and media of a package have, by the blobs that they name.
use Rattle.std.proofs.Common.{◌≡◌, ◌≢◌, ℕ, ◌≤◌, ℤ, List, [], ◌∷◌, length, Option, Some, None, option_map, IsTrue, refl}
use Rattle.std.proofs.Common.{sym, ap}
use Rattle.std.proofs.Common.{subst, ◌∙◌, arith}
use Rattle.std.specs.FinMap.{get}
use Rattle.sqlite.specs.Effect.{Database}
use Rattle.sqlite.specs.State.{State}
use Rattle.mm_definitions.specs.Bounds.{Profile, IsLong}
use Rattle.mm_definitions.specs.Package.{Package}
use Rattle.mm_definitions.proofs.Parts.{same_some}
use Rattle.mm_store.specs.Blobs.{Blob, bytes_at, AreBlobs}
use Rattle.mm_store.specs.Kept.{Kept, tile_id, tile_with, medium_id, medium_with}
use Rattle.mm_store.specs.Stands.{ReadsAs}
use Rattle.mm_store.specs.Seen.{IsSeenAs}
use Rattle.mm_blobs.proofs.Naming.{entry_of}
use Rattle.mm_column_limits.specs.Longest.{AreFew}
use Rattle.mm_check.specs.Form.{KeepsAs, AreShort}

some_bytes : (bytes : List ℕ) → bytes ≢ [] → 1 ≤ length bytes
some_bytes [] some = absurd (some refl)
some_bytes (x ∷ xs) some = omega arith

module _ (kept : Kept) (longest : ℕ) (are : AreBlobs kept.shelf) (short : AreShort longest kept) where
  -- what an id stands for is as long as the blobs are
  long_at : (id : ℤ) (bytes : List ℕ) → bytes_at kept.shelf id ≡ Some bytes → IsLong 1 longest bytes
  long_at id bytes stands = of (get kept.shelf id) refl
    where
      of : (o : Option Blob) → get kept.shelf id ≡ o → IsLong 1 longest bytes
      of None none = absurd (
          let e : None ≡ Some bytes = sym (ap (option_map (λ (b : Blob). b.bytes)) none) ∙ stands in cc)
      of (Some b) is =
          let same : b.bytes ≡ bytes =
          same_some (sym (ap (option_map (λ (c : Blob). c.bytes)) is) ∙ stands) in
          subst (IsLong 1 longest) same (some_bytes b.bytes (are.filled id b is), short id b is)

-- the blobs of a database that reads as a package
abbrev pub kept_of : (version : ℤ) (db : Database) (p : Package) → ReadsAs version db p → Kept
kept_of version db p r = r.stands.holds.kept

few : (version : ℤ) (db : Database) (p : Package) (r : ReadsAs version db p) (longest : ℕ)
    → AreShort longest (kept_of version db p r) → AreFew (Some longest) p
few version db p r longest short =
    let h = r.stands.holds in
    let k = h.keeps in (
      λ key bytes at.
          let e = entry_of tile_id tile_with h.kept.shelf h.kept.tiles p.tiles k.tiles_told key bytes at in
          subst (IsLong 1 longest) (sym e.4) (long_at h.kept longest k.are short e.0 e.2 e.3),
      λ key medium at.
          let e = entry_of medium_id medium_with h.kept.shelf h.kept.media p.media k.media_told key medium at in
          subst (λ m. IsLong 1 longest m.bytes) (sym e.4) (long_at h.kept longest k.are short e.0.blob e.2 e.3),
    )

-- where no blob is longer, no entry of the package that a connection reads as is
pub few_seen : (profile : Profile) (s : State) (p : Package) (longest : ℕ) → IsTrue s.is_open → IsSeenAs profile s p
    → ((kept : Kept) → (IsTrue s.is_open → KeepsAs s.now kept) → AreShort longest kept) → AreFew (Some longest) p
few_seen profile s p longest up seen short =
    let r = seen.reads up in
    let k = r.stands.holds.keeps in
    few profile.version s.now p r longest (short r.stands.holds.kept (λ _. record {
      schema_is = r.schema_is;
      tiles = k.tiles;
      media = k.media;
      pieces = k.pieces;
      blobs = k.blobs;
    }))
