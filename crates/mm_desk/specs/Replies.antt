-- What a desk shows of a package to a path behind the key.
use Rattle.std.specs.Prelude.{◌≡◌, ◌⊎◌, ℕ, ℤ, pos, true, false, Bool, [], ◌∷◌, Option, Some, None, Result, Err, IfErr}
use Rattle.std.specs.Prelude.{bytes_eq, codes, if◌then◌else◌}
use Rattle.std.specs.FinMap.{get}
use Rattle.std.specs.declared.alloc.Global.{Global}
use Rattle.std.specs.declared.vec.Vec.{Vec}
use Rattle.mm_definitions.specs.Bounds.{IsName, LastId}
use Rattle.mm_definitions.specs.Faults.{reopen}
use Rattle.mm_definitions.specs.Keys.{Text, item}
use Rattle.mm_definitions.specs.Package.{Medium, Package}
use Rattle.mm_definitions.specs.declared.answers.Fault.{Fault}
use Rattle.mm_reads.specs.Shown.{shown_rows}
use Rattle.mm_reads.specs.Viewers.{IsOn, IsViewFault, LeavesPackage, ShowsPart}
use Rattle.mm_reads.specs.declared.viewer.Viewer as viewers
use Rattle.mm_page.specs.Asked.{IsRouted, Contents, Media, SpellsWithin, Related, Tile, Wanted, path_from}
use Rattle.mm_page.specs.Page.{reply_of, where_found}
use Rattle.mm_page.specs.Responses.{Found, NotFound, Reply, response_of}
use Rattle.mm_desk.specs.Lists.{rows_text}
use Rattle.mm_desk.specs.Responses.{boxed_of}

-- ---- the rows of a table

-- the path asks for the rows of this table from this id on
abbrev pub AsksRows : Text → Text → ℤ → Type 0
AsksRows path table first = (id : Text) × (path ≡ path_from (codes "rows" ∷ table ∷ id ∷ []))
    × IsName table × SpellsWithin (pos 1) (pos LastId) id first

-- the first rows of the table from this id on, as JSON; 404 where there is no attribute table of this name
abbrev pub rows_reply_of : Package → Text → ℤ → Reply
rows_reply_of p table first = where_found (shown_rows p table first) (λ rows. Found (codes "application/json") (rows_text rows))

-- ---- what the page shows too

-- the table is the page's own
abbrev pub is_page : Option Text → Text → Bool
is_page None table = false
is_page (Some page) table = bytes_eq page table

-- a medium that a browser runs nothing of
abbrev pub boxed_medium : Option Medium → Text
boxed_medium None = response_of NotFound
boxed_medium (Some medium) = boxed_of medium.content_type medium.bytes

-- that of this id
abbrev pub media_bytes : Package → Text → ℤ → Text
media_bytes p table id = boxed_medium (get p.media (item table id))

-- as the page shows it, but that a browser runs nothing of the media of other tables than the page's
abbrev pub desk_bytes : Option Text → Package → Wanted → Text
desk_bytes page p (Media table id) = if is_page page table then response_of (reply_of p (Media table id))
    else media_bytes p table id
desk_bytes page p (Tile table zoom column row) = response_of (reply_of p (Tile table zoom column row))
desk_bytes page p (Related table id) = response_of (reply_of p (Related table id))
desk_bytes page p Contents = response_of (reply_of p Contents)

-- ---- the response to a path

-- it asks for rows, or for what the page shows
abbrev pub AsksPart : Text → Type 0
AsksPart path = ((table : Text) × (first : ℤ) × AsksRows path table first) ⊎ ((w : Wanted) × IsRouted path w)

-- the bytes answer the path: 404 where it asks for nothing
abbrev pub ShowsTo : Option Text → Text → Package → Text → Type 0
ShowsTo page path p bytes =
    ((table : Text) × (first : ℤ) × AsksRows path table first × (bytes ≡ response_of (rows_reply_of p table first)))
    ⊎ ((w : Wanted) × IsRouted path w × (bytes ≡ desk_bytes page p w))
    ⊎ (¬ (AsksPart path) × (bytes ≡ response_of NotFound))

-- It makes the response that is so told of a package. The package is asked before anything else, so that a session that
-- has failed is answered 92 and nothing else.
pub record IsReply {V : Type 0} (view : viewers.Ghosts V) (old new : V) (result : Result (Vec ℕ Global) Fault)
    (told : Package → Text) : Type 0 where
  pub same : view.has_failed new ≡ view.has_failed old
  pub kept : LeavesPackage (view.store old) (view.store new)
  pub ended : view.has_failed old ≡ true → result ≡ Err reopen
  pub reply : ShowsPart (IsOn (view.has_failed old) (view.store old) (view.store new)) (λ v. v.items) told result
  pub fault : IfErr result (IsViewFault (view.has_failed old))
