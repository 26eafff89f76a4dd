-- The moment of a run or an import, as it is told.
use Rattle.std.proofs.Common.{◌≡◌, ◌∙◌, ℕ, Option, Some, None, IfSome, refl, sym, ap}
use Rattle.std.specs.Prelude.{unwrap_or}
use Rattle.mm_program.specs.declared.clock.Now.{Now}
use Rattle.mm_program.specs.declared.clock.Now.TheVariants as now

moment_of : Now → ℕ
moment_of (now.At moment) = moment
moment_of now.Outside = 0
moment_of now.Unread = 0

-- the moment that is taken is the one that is given
pub at_given : (at : Option ℕ) (it : Now) (moment : ℕ) → IfSome at (λ given. it ≡ now.At given) → it ≡ now.At moment
    → IfSome at (λ given. moment ≡ given)
unfolding moment_of
at_given None it moment given is = tt
at_given (Some m) it moment given is = ap moment_of (sym is ∙ given)

-- where none is given any does
pub any_given : (at : Option ℕ) → IfSome at (λ given. unwrap_or at 0 ≡ given)
any_given None = tt
any_given (Some m) = refl
