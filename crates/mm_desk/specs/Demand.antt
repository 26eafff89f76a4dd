-- What a request is taken for, by the values of its head: the table of the desk, line by line.
use Rattle.std.specs.Prelude.{◌≡◌, ◌≢◌, ◌⊎◌, ◌++◌, ◌∷◌, [], ℕ, List, Bool, ◌&&◌, ◌==◌, nat_le, if◌then◌else◌, codes}
use Rattle.std.specs.Prelude.{decimal, ⊤}
use Rattle.std.specs.List.{before_first}
use Rattle.mm_definitions.specs.Keys.{Text}
use Rattle.http1.specs.Fields.{Header, known_fields, values_named}
use Rattle.http1.specs.declared.fields.ContentLength.{ContentLength}
use Rattle.http1.specs.declared.fields.ContentLength.TheVariants as lengths
use Rattle.http1.specs.declared.fields.TransferEncoding.{TransferEncoding}
use Rattle.http1.specs.declared.fields.TransferEncoding.TheVariants as codings
use Rattle.mm_desk.specs.declared.demand.Taken.{Taken}
use Rattle.mm_desk.specs.declared.demand.Taken.TheVariants as takens

-- a part of the package by a path behind the key; so many bytes of records, whose sender waits or not; an end; or a
-- status
pub data Demand : Type 0 where
  Show : (path : Text) → Demand
  Records : (length : ℕ) (waits : Bool) → Demand
  End : Demand
  Refuse : (status : ℕ) → Demand

-- what the code's value takes a request for
abbrev pub demanded : Taken → Demand
demanded (takens.Show path) = Show path.now
demanded (takens.Records length waits) = Records length waits
demanded takens.End = End
demanded (takens.Refused status) = Refuse status

-- there is one value, and it is so
abbrev pub Once : (Text → Type 0) → List Text → Type 0
Once P [] = ⊥
Once P (v ∷ []) = P v
Once P (v ∷ w ∷ vs) = ⊥

-- there is none, or one that is so
abbrev pub Lone : (Text → Type 0) → List Text → Type 0
Lone P [] = ⊤
Lone P (v ∷ []) = P v
Lone P (v ∷ w ∷ vs) = ⊥

-- the address that the desk prints; the page's own; a browser tells of no other site
abbrev pub IsHost : ℕ → Text → Type 0
IsHost port v = v ≡ codes "127.0.0.1:" ++ decimal port

abbrev pub IsOrigin : ℕ → Text → Type 0
IsOrigin port v = v ≡ codes "http://127.0.0.1:" ++ decimal port

abbrev pub IsOwnSite : Text → Type 0
IsOwnSite v = (v ≡ codes "same-origin") ⊎ (v ≡ codes "none")

-- it came to this address, and from a page of this address if from one
abbrev pub LetsIn : ℕ → List Header → Type 0
LetsIn port fields = Once (IsHost port) (values_named (codes "host") fields)
    × Lone (IsOrigin port) (values_named (codes "origin") fields) × Lone IsOwnSite (values_named (codes "sec-fetch-site") fields)

-- the target before its first question mark
abbrev pub path_of : Text → Text
path_of target = before_first (λ b. b == 63) target

-- a length and no coding, within the limit
abbrev pub measured : ContentLength → TransferEncoding → Bool → Demand
measured (lengths.Value n) codings.Absent waits = if nat_le n 16777216 then Records n waits else Refuse 413
measured lengths.Invalid codings.Absent waits = Refuse 400
measured _ _ waits = Refuse 411

abbrev pub IsCsv : Text → Type 0
IsCsv v = v ≡ codes "text/csv"

-- records of their type, by their length
abbrev pub IsSent : List Header → ℕ → Demand → Type 0
IsSent fields minor d =
    (Once IsCsv (values_named (codes "content-type") fields)
    × (d ≡ measured (known_fields fields).content_length (known_fields fields).transfer_encoding
    ((known_fields fields).expect_continue && (minor == 1))))
    ⊎ (¬ (Once IsCsv (values_named (codes "content-type") fields)) × (d ≡ Refuse 415))

-- what is taken behind the key
abbrev pub IsTaken : Text → List Header → ℕ → Text → Demand → Type 0
IsTaken method fields minor rest d =
    ((method ≡ codes "GET") × (d ≡ Show rest))
    ⊎ ((method ≡ codes "POST") × (rest ≡ codes "/records") × IsSent fields minor d)
    ⊎ ((method ≡ codes "POST") × (rest ≡ codes "/end") × (d ≡ End))
    ⊎ ((method ≢ codes "GET") × (rest ≢ codes "/records") × (rest ≢ codes "/end") × (d ≡ Refuse 404))

-- the whole table
abbrev pub IsDemand : ℕ → Text → Text → Text → List Header → ℕ → Demand → Type 0
IsDemand port front method target fields minor d =
    (¬ (LetsIn port fields) × (d ≡ Refuse 403))
    ⊎ (LetsIn port fields × (method ≢ codes "GET") × (method ≢ codes "POST") × (d ≡ Refuse 405))
    ⊎ (LetsIn port fields × ((method ≡ codes "GET") ⊎ (method ≡ codes "POST"))
    × (((rest : Text) × (path_of target ≡ front ++ rest) × IsTaken method fields minor rest d)
    ⊎ (((rest : Text) → path_of target ≢ front ++ rest) × (d ≡ Refuse 404))))
