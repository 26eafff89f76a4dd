use Rattle.std.proofs.Common.{refl, rules}
use Rattle.std.proofs.lemmas.Result.{err_from_is_err_and}
use Rattle.mm_definitions.specs.Bounds.{current}
use Rattle.mm_meta.specs.Opening.{given_systems}
use Rattle.mm_meta.proofs.Making.{making_then, making_failed, first_free, second_free, third_free}
use Rattle.mm_meta.proofs.opening.put_systems.Goals as goal

pub returns-in_err-insert_profile : goal.returns-in_err-insert_profile
returns-in_err-insert_profile g c = record {
  same = search rules;
  made =
      let p = err_from_is_err_and c.from_residual.result c.from_residual.ensures.1 in
      rw (p.1, p.2) (making_failed current _ _ _ _ given_systems _ (c.in_err-insert_profile.ensures.made current refl));
}

pub returns-in_err-insert_system : goal.returns-in_err-insert_system
returns-in_err-insert_system g c = record {
  same = search rules;
  made =
      let p = err_from_is_err_and c.from_residual-in_err-insert_system.result
      c.from_residual-in_err-insert_system.ensures.1 in
      let made_0 = c.in_ok-insert_profile.ensures.made current refl in
      rw (p.1, p.2)
      (making_failed current _ _ _ _ given_systems _
      (making_then current _ made_0 c.in_err-insert_system.ensures first_free));
}

pub returns-in_err-insert_system-2 : goal.returns-in_err-insert_system-2
returns-in_err-insert_system-2 g c = record {
  same = search rules;
  made =
      let p = err_from_is_err_and c.from_residual-in_err-insert_system-2.result
      c.from_residual-in_err-insert_system-2.ensures.1 in
      let made_0 = c.in_ok-insert_profile.ensures.made current refl in
      let made_1 = making_then current _ made_0 c.in_ok-insert_system.ensures first_free in
      rw (p.1, p.2)
      (making_failed current _ _ _ _ given_systems _
      (making_then current _ made_1 c.in_err-insert_system-2.ensures second_free));
}

pub returns : goal.returns
returns g c = record {
  same = search rules;
  made =
      let made_0 = c.in_ok-insert_profile.ensures.made current refl in
      let made_1 = making_then current _ made_0 c.in_ok-insert_system.ensures first_free in
      let made_2 = making_then current _ made_1 c.in_ok-insert_system-2.ensures second_free in
      making_then current _ made_2 c.insert_system-3.ensures third_free;
}
