-- The fields of a head that decide whether a request is let in.
use Rattle.std.specs.Prelude.{◌≡◌, ◌⊎◌, ◌++◌, ◌<◌, ℕ, List, [], ◌∷◌, codes, decimal, length, ⊤}
use Rattle.mm_definitions.specs.Keys.{Text}
use Rattle.mm_desk.specs.declared.fields.FieldValue.{FieldValue}
use Rattle.mm_desk.specs.declared.fields.FieldValue.TheVariants as values

-- the values of a name: none, just this one, or more
abbrev pub IsFieldValue : List Text → FieldValue → Type 0
IsFieldValue vs values.Absent = vs ≡ []
IsFieldValue vs (values.Once v) = vs ≡ v.now ∷ []
IsFieldValue vs values.Often = 1 < length vs

-- it stands once, and is the address
abbrev pub IsHostField : ℕ → FieldValue → Type 0
IsHostField port (values.Once v) = v.now ≡ codes "127.0.0.1:" ++ decimal port
IsHostField port _ = ⊥

-- it is left out, or stands once and is the page's own
abbrev pub IsOriginField : ℕ → FieldValue → Type 0
IsOriginField port values.Absent = ⊤
IsOriginField port (values.Once v) = v.now ≡ codes "http://127.0.0.1:" ++ decimal port
IsOriginField port values.Often = ⊥

-- it is left out, or stands once and tells of no other site
abbrev pub IsSiteField : FieldValue → Type 0
IsSiteField values.Absent = ⊤
IsSiteField (values.Once v) = (v.now ≡ codes "same-origin") ⊎ (v.now ≡ codes "none")
IsSiteField values.Often = ⊥
