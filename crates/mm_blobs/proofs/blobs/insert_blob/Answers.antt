use Rattle.std.proofs.Common.{◌≡◌, [], ◌∷◌, Ok, refl, sym, ap, subst, ◌∙◌, rules, w64, to_z, of_z, to_z-of_z}
use Rattle.std.proofs.lemmas.Result.{err_from_is_err_and}
use Rattle.std.specs.FinMap.{insert}
use Rattle.sqlite.specs.declared.types.Value.TheVariants.{Int, Null, Text as Words, Blob as Bytes}
use Rattle.sqlite.specs.Tree.{with_tree, put_row}
use Rattle.sqlite.specs.Edit.{next_rowid}
use Rattle.sqlite.specs.Held.{state}
use Rattle.sql_forms.proofs.Keys.{chosen_is_free}
use Rattle.sql_forms.proofs.Inserts.{has_inserted}
use Rattle.mm_store.specs.Blobs.{blob_of}
use Rattle.mm_store.proofs.Inserting as statement
use Rattle.mm_blobs.specs.Views.{HoldsAs, Lacks, spare_too, IsSeen}
use Rattle.mm_blobs.specs.Moves.{IsMove}
use Rattle.mm_blobs.proofs.Moving.{moves, seen}
use Rattle.sql_forms.proofs.Inserted.{inserted_id}
use Rattle.mm_blobs.proofs.Keeping.{keeps_more, kept_in, holds_with}
use Rattle.mm_blobs.proofs.blobs.insert_blob.Goals as goal

pub returns : goal.returns
returns g c = record {
  same = search rules;
  put = λ profile spare.
      let old = state g.S.Store c.args.tx.now.conn.now in
      let new = state g.S.Store c.run.new.tx.conn.now in
      let bytes = c.args.bytes.now in
      let params = Words c.args.digest.now ∷ Bytes bytes ∷ [] in
      let rest = Null ∷ Words c.args.digest.now ∷ Bytes bytes ∷ [] in
      let run = c.in_ok-run.ensures.run in
      let id = c.last_insert_rowid.result in
      let back : to_z w64 (of_z w64 id) ≡ id = search (rules, to_z-of_z) in
      subst (λ t. IsMove old new (λ base x. IsSeen spare profile old base x × Lacks x.kept.shelf bytes)
      (λ base x at y. (y ≡ record x { kept = record (x.kept) { shelf = insert x.kept.shelf at (blob_of bytes) } })
      × IsSeen (spare_too at spare) profile new base y) (Ok t)) (sym back)
      (moves profile old new _ _ spare (λ db. with_tree db 27 (put_row (Int (next_rowid (db 27)) ∷ rest) (db 27)))
      (λ x. Lacks x.kept.shelf bytes)
      (λ x id. record x { kept = record (x.kept) { shelf = insert x.kept.shelf id (blob_of bytes) } })
      (λ id. spare_too id spare)
      (Ok id) run.survives run.on tt run.ran
      (λ count ready h. has_inserted _ _ _ _ _ _ statement.insert_blob old new ready params _ (Ok count) Null rest refl
      refl refl (search rules) h)
      (λ t same count ready h x keeps lacks.
      let is : id ≡ next_rowid (seen old 27) = c.last_insert_rowid.ensures
      ∙ inserted_id _ _ _ _ _ _ statement.insert_blob old new ready params _ count Null rest refl refl refl
      (search rules) h in
      let same_id : id ≡ t = (let e : Ok id ≡ Ok t = same in cc) in
      subst (λ z. HoldsAs (spare_too z spare) profile.version
      (with_tree (seen old) 27 (put_row (Int (next_rowid (seen old 27)) ∷ rest) (seen old 27)))
      (record x { kept = record (x.kept) { shelf = insert x.kept.shelf z (blob_of bytes) } })) (sym is ∙ same_id)
      (holds_with spare (spare_too (next_rowid (seen old 27)) spare) profile.version (seen old) x keeps _ _
      (keeps_more spare (seen old) x.kept x.content (kept_in spare spare profile.version (seen old) x keeps) bytes
      c.requires.some lacks (next_rowid (seen old 27)) rest (chosen_is_free (seen old 27) rest (ready.rows 27))
      (ap (λ d. Null ∷ Words d ∷ Bytes bytes ∷ []) c.requires.digest)))));
}

pub returns-in_err-run : goal.returns-in_err-run
returns-in_err-run g c = record {
  same = search rules;
  put = λ profile spare.
      let p = err_from_is_err_and c.from_residual.result c.from_residual.ensures.1 in
      let run = c.in_err-run.ensures.run in
      rw (p.1, p.2) (record {
        survives = run.survives;
        on = λ clean ground x it. run.on clean it.0.mode ground it.0.back;
        moved = λ clean ground x it. tt;
        faults = run.faults;
      });
}
