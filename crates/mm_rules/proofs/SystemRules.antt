-- What the query of the given systems shows, and rule 1.
use Rattle.std.proofs.Common.{◌≡◌, ◌↔◌, inl, true, ◌&&◌, ℤ, pos, negsuc, [], ◌∷◌, List, Option, Some, None, filter}
use Rattle.std.proofs.Common.{refl, sym, ap, subst}
use Rattle.std.specs.Prelude.{⊤}
use Rattle.std.specs.FinMap.{get}
use Rattle.sqlite.specs.Order.{Row, column}
use Rattle.sqlite.specs.Tree.{Trees}
use Rattle.sqlite.specs.declared.types.Value.TheVariants.{Null, Int, Text as Words}
use Rattle.sql_forms.specs.Collation.TheVariants.{Binary}
use Rattle.sql_forms.specs.Term.{col}
use Rattle.sql_forms.specs.Query.{inner, left, end, or_nulls}
use Rattle.sql_forms.specs.Rules.{equal}
use Rattle.sql_forms.specs.Lists as lists
use Rattle.mm_definitions.specs.Package.{Package, System}
use Rattle.mm_definitions.specs.Rules.{GivenSystems, geographic, undefined_cartesian, undefined_geographic}
use Rattle.mm_definitions.proofs.Parts.{same_some}
use Rattle.mm_store.specs.Rows.{system_row}
use Rattle.mm_store.specs.Stands.{StandsFor, profile_row}
use Rattle.mm_rules.specs.SystemRows.{IsGivenRow, shows_by}
use Rattle.mm_walk.proofs.Joined.{as_whole, covered_whole, joined}
use Rattle.mm_walk.proofs.Keys.{number_is}
use Rattle.mm_walk.proofs.Terms.{equals}
use Rattle.mm_walk.proofs.Checks.{Says}

-- five columns show a system exactly where it is that one
system_is : (wanted s : System)
    → shows_by wanted (Words s.name) (Words s.organization) (Int s.organization_id) (Words s.definition)
    (Words s.description) ↔ (◌≡◌ {A = Option System} (Some s) (Some wanted))
system_is wanted s = (
  λ (a, b, c, d, e). ap Some (together (same_some a) (same_some b) (same_some c) (same_some d) (same_some e)),
  λ e. let it = same_some e in (
    ap (λ (x : System). Some x.name) it,
    ap (λ (x : System). Some x.organization) it,
    ap (λ (x : System). Some x.organization_id) it,
    ap (λ (x : System). Some x.definition) it,
    ap (λ (x : System). Some x.description) it,
  ),
)
  where
    together : s.name ≡ wanted.name → s.organization ≡ wanted.organization → s.organization_id ≡ wanted.organization_id
        → s.definition ≡ wanted.definition → s.description ≡ wanted.description → s ≡ wanted
    together a b c d e = λ i. record
        { name = a i; organization = b i; organization_id = c i; definition = d i; description = e i }

nothing_is : (wanted : System) → shows_by wanted Null Null Null Null Null ↔ (◌≡◌ {A = Option System} None (Some wanted))
nothing_is wanted = (λ (a, b, c, d, e). absurd (let f = a in cc), λ e. absurd (let f = e in cc))

abbrev found : Trees → ℤ → List Row
found db id = or_nulls (filter (λ r. equal Binary (column r 0) (Int id) && true) (db 0))

abbrev of_row : System → Row → Type 0
of_row wanted r = shows_by wanted (column r 1) (column r 3) (column r 4) (column r 5) (column r 6)

-- of the row of one table whose rows are not looked at
pub one_row : (rows : List Row) (row : Row) (A : Type 0) → rows ≡ row ∷ [] → ((r : Row) → lists.Has rows r → A) ↔ A
one_row rows row A is = (λ f. f row (subst (λ l. lists.Has l row) (sym is) (inl refl)), λ a r there. a)

module _ (version : ℤ) (db : Trees) (p : Package) (stands : StandsFor version db p) where
  at_system : (Q : Row → Type 0) (P : Option System → Type 0) (id : ℤ) → Q [] ↔ P None
      → ((s : System) (x : ⊤) → Q (system_row id s) ↔ P (Some s))
      → ((r : Row) → lists.Has (found db id) r → Q r) ↔ P (get p.systems id)
  at_system Q P id none some = joined as_whole system_row (db 0) p.systems (covered_whole stands.holds.systems) _ id
      (λ l s y. number_is l id) Q P none some

  abbrev shown : Row → Row → Row → Row
  shown a b c = column a 1 ∷ column a 3 ∷ column a 4 ∷ column a 5 ∷ column a 6 ∷ column b 1 ∷ column b 3 ∷ column b 4
      ∷ column b 5 ∷ column b 6 ∷ column c 1 ∷ column c 3 ∷ column c 4 ∷ column c 5 ∷ column c 6 ∷ []

  with_third : (a b : Row)
      → ((c : Row) → lists.Has (found db (pos 0)) c → IsGivenRow (shown a b c))
      ↔ (of_row geographic a × of_row undefined_cartesian b × (get p.systems (pos 0) ≡ Some undefined_geographic))
  with_third a b = at_system (λ c. IsGivenRow (shown a b c)) (λ o. of_row geographic a × of_row undefined_cartesian b
      × (o ≡ Some undefined_geographic)) (pos 0)
      (let n = nothing_is undefined_geographic in (
        λ h. (h.geographic_is, h.cartesian_is, n.0 h.undefined_is),
        λ (x, y, z). record
            { geographic_is = x; cartesian_is = y; undefined_is = n.1 z },
      ))
      (λ s u. let n = system_is undefined_geographic s in (
        λ h. (h.geographic_is, h.cartesian_is, n.0 h.undefined_is),
        λ (x, y, z).
            record { geographic_is = x; cartesian_is = y; undefined_is = n.1 z },
      ))

  with_second : (a : Row) → ((b : Row) → lists.Has (found db (negsuc 0)) b → (c : Row) → lists.Has (found db (pos 0)) c
      → IsGivenRow (shown a b c))
      ↔ (of_row geographic a × (get p.systems (negsuc 0) ≡ Some undefined_cartesian)
      × (get p.systems (pos 0) ≡ Some undefined_geographic))
  with_second a = at_system (λ b. (c : Row) → lists.Has (found db (pos 0)) c → IsGivenRow (shown a b c))
      (λ o. of_row geographic a × (o ≡ Some undefined_cartesian) × (get p.systems (pos 0) ≡ Some undefined_geographic))
      (negsuc 0)
      (let n = nothing_is undefined_cartesian in let w =
      with_third a [] in (λ h. let t = w.0 h in (t.0, n.0 t.1, t.2), λ (x, y, z). w.1 (x, n.1 y, z)))
      (λ s u. let n = system_is undefined_cartesian s in let w = with_third a (system_row (negsuc 0) s) in
      (λ h. let t = w.0 h in (t.0, n.0 t.1, t.2), λ (x, y, z). w.1 (x, n.1 y, z)))

  all_three : ((a : Row) → lists.Has (found db (pos 4326)) a → (b : Row) → lists.Has (found db (negsuc 0)) b → (c : Row)
      → lists.Has (found db (pos 0)) c → IsGivenRow (shown a b c))
      ↔ ((get p.systems (pos 4326) ≡ Some geographic) × (get p.systems (negsuc 0) ≡ Some undefined_cartesian)
      × (get p.systems (pos 0) ≡ Some undefined_geographic))
  all_three = at_system (λ a. (b : Row) → lists.Has (found db (negsuc 0)) b → (c : Row) → lists.Has (found db (pos 0)) c
      → IsGivenRow (shown a b c))
      (λ o. (o ≡ Some geographic) × (get p.systems (negsuc 0) ≡ Some undefined_cartesian)
      × (get p.systems (pos 0) ≡ Some undefined_geographic)) (pos 4326)
      (let n = nothing_is geographic in let w =
      with_second [] in (λ h. let t = w.0 h in (n.0 t.0, t.1, t.2), λ (x, y, z). w.1 (n.1 x, y, z)))
      (λ s u. let n = system_is geographic s in let w = with_second (system_row (pos 4326) s) in
      (λ h. let t = w.0 h in (n.0 t.0, t.1, t.2), λ (x, y, z). w.1 (n.1 x, y, z)))

  three : ((a : Row) → lists.Has (found db (pos 4326)) a → (b : Row) → lists.Has (found db (negsuc 0)) b → (c : Row)
      → lists.Has (found db (pos 0)) c → IsGivenRow (shown a b c)) ↔ GivenSystems p.systems
  three = (
    λ h. let t = all_three.0 h in record { geographic_stands = t.0; cartesian_stands = t.1; undefined_stands = t.2 },
    λ g. all_three.1 (g.geographic_stands, g.cartesian_stands, g.undefined_stands),
  )

pub given_systems : Says (Int (pos 4326) ∷ Int (negsuc 0) ∷ Int (pos 0) ∷ [])
    (inner 12 (left 0 (equals 2 0 0 0 ∷ []) (left 0 (equals 3 0 0 1 ∷ []) (left 0 (equals 4 0 0 2 ∷ []) end)))) []
    (col 2 1 ∷ col 2 3 ∷ col 2 4 ∷ col 2 5 ∷ col 2 6 ∷ col 3 1 ∷ col 3 3 ∷ col 3 4 ∷ col 3 5 ∷ col 3 6 ∷ col 4 1
    ∷ col 4 3 ∷ col 4 4 ∷ col 4 5 ∷ col 4 6 ∷ []) IsGivenRow (λ _. ⊤) (λ p. GivenSystems p.systems)
given_systems version db p stands known =
    let it = one_row (db 12) (profile_row version) _ stands.holds.profile in
    let all = three version db p stands in
    (λ h. all.0 (it.0 h), λ g. it.1 (all.1 g))
