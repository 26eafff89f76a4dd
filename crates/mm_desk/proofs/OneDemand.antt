-- A head has one demand.
use Rattle.std.proofs.Common.{◌≡◌, ◌≢◌, ◌∙◌, ◌⊎◌, ◌++◌, inl, inr, ℕ, List, ap, subst, sym, arith, codes, length}
use Rattle.std.proofs.lemmas.List.{append_cancel_left}
use Rattle.http1.specs.Fields.{Header}
use Rattle.mm_definitions.specs.Keys.{Text}
use Rattle.mm_desk.specs.Demand.{Demand, IsDemand, IsSent, IsTaken, Refuse, path_of}

-- a method is not both, nor is a path
get_or_post : {A : Type 0} → (method : Text) → method ≡ codes "GET" → method ≡ codes "POST" → A
get_or_post method get post = absurd (let e : 3 ≡ 4 = sym (ap length get) ∙ ap length post in omega (arith, e))

records_or_end : {A : Type 0} → (rest : Text) → rest ≡ codes "/records" → rest ≡ codes "/end" → A
records_or_end rest records end = absurd (let e : 8 ≡ 4 = sym (ap length records) ∙ ap length end in omega (arith, e))

module _ (fields : List Header) (minor : ℕ) where
  sent_one : (d e : Demand) → IsSent fields minor d → IsSent fields minor e → d ≡ e
  sent_one d e (inl a) (inl b) = a.1 ∙ sym b.1
  sent_one d e (inl a) (inr b) = absurd (b.0 a.0)
  sent_one d e (inr a) (inl b) = absurd (a.0 b.0)
  sent_one d e (inr a) (inr b) = a.1 ∙ sym b.1

  module _ (method : Text) where
    taken_one : (rest : Text) (d e : Demand) → IsTaken method fields minor rest d → IsTaken method fields minor rest e
        → d ≡ e
    taken_one rest d e (inl a) (inl b) = a.1 ∙ sym b.1
    taken_one rest d e (inl a) (inr (inl b)) = get_or_post method a.0 b.0
    taken_one rest d e (inl a) (inr (inr (inl b))) = get_or_post method a.0 b.0
    taken_one rest d e (inl a) (inr (inr (inr b))) = absurd (b.0 a.0)
    taken_one rest d e (inr (inl a)) (inl b) = get_or_post method b.0 a.0
    taken_one rest d e (inr (inl a)) (inr (inl b)) = sent_one d e a.2 b.2
    taken_one rest d e (inr (inl a)) (inr (inr (inl b))) = records_or_end rest a.1 b.1
    taken_one rest d e (inr (inl a)) (inr (inr (inr b))) = absurd (b.1 a.1)
    taken_one rest d e (inr (inr (inl a))) (inl b) = get_or_post method b.0 a.0
    taken_one rest d e (inr (inr (inl a))) (inr (inl b)) = records_or_end rest b.1 a.1
    taken_one rest d e (inr (inr (inl a))) (inr (inr (inl b))) = a.2 ∙ sym b.2
    taken_one rest d e (inr (inr (inl a))) (inr (inr (inr b))) = absurd (b.2 a.1)
    taken_one rest d e (inr (inr (inr a))) (inl b) = absurd (a.0 b.0)
    taken_one rest d e (inr (inr (inr a))) (inr (inl b)) = absurd (a.1 b.1)
    taken_one rest d e (inr (inr (inr a))) (inr (inr (inl b))) = absurd (a.2 b.1)
    taken_one rest d e (inr (inr (inr a))) (inr (inr (inr b))) = a.3 ∙ sym b.3

    -- what is demanded by a path, behind the key or not
    abbrev Behind : Text → Text → Demand → Type 0
    Behind front path d = ((rest : Text) × (path ≡ front ++ rest) × IsTaken method fields minor rest d)
        ⊎ (((rest : Text) → path ≢ front ++ rest) × (d ≡ Refuse 404))

    behind_one : (front path : Text) (d e : Demand) → Behind front path d → Behind front path e → d ≡ e
    behind_one front path d e (inl (rest, is, taken)) (inl (other, same, too)) =
        taken_one other d e (subst (λ r. IsTaken method fields minor r d)
        (append_cancel_left front rest other (sym is ∙ same)) taken) too
    behind_one front path d e (inl (rest, is, taken)) (inr (none, refused)) = absurd (none rest is)
    behind_one front path d e (inr (none, refused)) (inl (other, same, too)) = absurd (none other same)
    behind_one front path d e (inr (none, refused)) (inr (never, too)) = refused ∙ sym too

    pub demand_one : (port : ℕ) (front target : Text) (d e : Demand) → IsDemand port front method target fields minor d
        → IsDemand port front method target fields minor e → d ≡ e
    demand_one port front target d e (inl a) (inl b) = a.1 ∙ sym b.1
    demand_one port front target d e (inl a) (inr (inl b)) = absurd (a.0 b.0)
    demand_one port front target d e (inl a) (inr (inr b)) = absurd (a.0 b.0)
    demand_one port front target d e (inr (inl a)) (inl b) = absurd (b.0 a.0)
    demand_one port front target d e (inr (inl a)) (inr (inl b)) = a.3 ∙ sym b.3
    demand_one port front target d e (inr (inl a)) (inr (inr (lets, inl get, behind))) = absurd (a.1 get)
    demand_one port front target d e (inr (inl a)) (inr (inr (lets, inr post, behind))) = absurd (a.2 post)
    demand_one port front target d e (inr (inr a)) (inl b) = absurd (b.0 a.0)
    demand_one port front target d e (inr (inr (lets, inl get, behind))) (inr (inl b)) = absurd (b.1 get)
    demand_one port front target d e (inr (inr (lets, inr post, behind))) (inr (inl b)) = absurd (b.2 post)
    demand_one port front target d e (inr (inr (lets, way, behind))) (inr (inr (too, other, same))) =
        behind_one front (path_of target) d e behind same
