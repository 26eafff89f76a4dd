-- What is handed on from one result to the next.
use Rattle.std.proofs.Common.{◌≡◌, inl, refl, ap, Bool, true, false, Result, Ok, Err, IfOk, IfErr, OnOk}
use Rattle.mm_definitions.specs.declared.answers.Fault.{Fault}
use Rattle.mm_reads.specs.Viewers.{IsViewFault, ShowsValue}

pub told : {A E F : Type 0} (P : A → Type 0) (r : Result A F) (made : Result A E) → IfOk r (λ v. made ≡ Ok v)
    → IfOk made P → IfOk r P
told P (Err f) made e h = tt
told P (Ok v) made e h = rw e at h

pub weaker : {A F : Type 0} (P Q : A → Type 0) (r : Result A F) → ((v : A) → P v → Q v) → IfOk r P → IfOk r Q
weaker P Q (Err f) go h = tt
weaker P Q (Ok v) go h = go v h

-- what holds of a value at each x holds of it at all
pub under : {X A F : Type 0} (P : X → A → Type 0) (r : Result A F) → ((x : X) → IfOk r (P x))
    → IfOk r (λ v. (x : X) → P x v)
under P (Err f) h = tt
under P (Ok v) h = h

-- an answer that shows a part is one that equals it
pub gives : {A B : Type 0} (shown : A → B) (part : B) (r : Result A Fault) → IfOk r (λ v. shown v ≡ part)
    → ShowsValue shown part r
gives shown part (Ok v) h = h
gives shown part (Err f) h = tt

pub given : {A B : Type 0} (shown : A → B) (part : B) (r : Result A Fault) → ShowsValue shown part r
    → IfOk r (λ v. shown v ≡ part)
given shown part (Ok v) h = h
given shown part (Err f) h = tt

-- what holds whatever the result is
pub ok_so : {A E : Type 0} {P : Type 0} (r : Result A E) → P → OnOk r P
ok_so (Ok v) h = h
ok_so (Err f) h = tt

pub err_so : {A E : Type 0} (P : E → Type 0) (r : Result A E) → ((f : E) → P f) → IfErr r P
err_so P (Ok v) h = tt
err_so P (Err f) h = h f

-- ---- what a viewer that has failed is asked for

-- one that has shown something has not failed
pub works : {T : Type 0} (failed : Bool) (shown : T)
    → (failed ≡ true → ◌≡◌ {A = Result T Fault} (Ok shown) (Err (record { 0 = 92 }))) → failed ≡ false
works true shown ended = absurd (let e = ended refl in cc)
works false shown ended = refl

-- its fault is handed on
pub handed : {T U : Type 0} (failed : Bool) (fault : Fault)
    → (failed ≡ true → ◌≡◌ {A = Result T Fault} (Err fault) (Err (record { 0 = 92 })))
    → failed ≡ true → ◌≡◌ {A = Result U Fault} (Err fault) (Err (record { 0 = 92 }))
handed failed fault ended was = let same : fault ≡ record { 0 = 92 } = cc (ended was) in ap Err same

-- memory is wanted behind it
pub wants_memory : {T : Type 0} (failed : Bool) (r : Result T Fault) → failed ≡ false → IfErr r (λ f. f.0 ≡ 90)
    → IfErr r (IsViewFault failed)
wants_memory failed (Ok v) works is = tt
wants_memory failed (Err f) works is = inl (works, inl is)

pub never_so : {T U : Type 0} (failed : Bool) (shown : T) (r : Result U Fault)
    → (failed ≡ true → ◌≡◌ {A = Result T Fault} (Ok shown) (Err (record { 0 = 92 }))) → failed ≡ true
    → r ≡ Err (record { 0 = 92 })
never_so failed shown r ended was = absurd (let e = ended was in cc)
