use Rattle.std.proofs.Common.{pos, [], ◌∷◌, Ok, refl, sym, subst, rules}
use Rattle.sqlite.specs.declared.types.Value.TheVariants.{Int, Null}
use Rattle.sqlite.specs.Tree.{with_tree, put_row}
use Rattle.sqlite.specs.Held.{state}
use Rattle.sql_forms.proofs.Inserts.{has_inserted}
use Rattle.mm_store.proofs.Inserting as statement
use Rattle.mm_store.specs.Stands.{profile_row, Holding}
use Rattle.mm_meta.specs.Opening.{nothing}
use Rattle.mm_meta.proofs.Making.{makes, nothing_holds}
use Rattle.mm_meta.proofs.profile.insert_profile.Goals as goal

pub returns : goal.returns
returns g c = record {
  same = search rules;
  made = λ profile same.
      let old = state g.S.Store c.args.tx.now.conn.now in
      let new = state g.S.Store c.run.new.tx.conn.now in
      let version = c.args.version in
      makes profile old new _ _ (λ db. with_tree db 12 (put_row (profile_row version) (db 12))) nothing c.run.result
      c.run.ensures.run
      (λ count ready h. has_inserted _ _ _ _ _ _ statement.insert_profile old new ready (Int (pos 1) ∷ Int version ∷ [])
      _ (Ok count) (Int (pos 1)) (Null ∷ Int version ∷ []) refl refl refl (search rules) h)
      (λ db none. subst (λ v. Holding v (with_tree db 12 (put_row (profile_row version) (db 12))) nothing) (sym same)
      (nothing_holds version db none));
}
