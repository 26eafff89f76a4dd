-- What is shown to a path.
use Rattle.std.proofs.Common.{◌≡◌, ◌∙◌, inl, inr, ℕ, ◌++◌, ◌∷◌, [], Option, Result, IfOk, IfErr, refl, sym, arith}
use Rattle.std.proofs.Common.{codes}
use Rattle.std.specs.declared.alloc.Global.{Global}
use Rattle.std.specs.declared.vec.Vec.{Vec}
use Rattle.std.proofs.lemmas.Result.{IfErr-weaker, IfOk-weaker}
use Rattle.std.proofs.lemmas.Str.{IsAscii-append}
use Rattle.std.specs.Str.{IsAscii}
use Rattle.mm_definitions.specs.Keys.{Text}
use Rattle.mm_definitions.specs.Package.{Package}
use Rattle.mm_definitions.specs.declared.answers.Fault.{Fault}
use Rattle.mm_page.specs.Promised.{MakesResponse}
use Rattle.mm_page.specs.Responses.{NotFound, response_of}
use Rattle.mm_page.proofs.AskFacts.{ascii_word, asks_ascii}
use Rattle.mm_page.proofs.NumberFacts.{name_ascii, spelled_ascii}
use Rattle.mm_page.proofs.ServeFacts.{given}
use Rattle.mm_reads.specs.declared.viewer.Viewer as viewers
use Rattle.mm_reads.proofs.Leaving.{leaves_same}
use Rattle.mm_desk.specs.Replies.{AsksPart, IsReply, ShowsTo}

-- ---- a path that asks for a part is ASCII

pub part_ascii : (path : Text) → AsksPart path → IsAscii path
part_ascii path (inl (table, first, (id, is, name, number))) =
    rw is (IsAscii-append (codes "/rows/") (table ++ 47 ∷ id) (ascii_word (codes "/rows/") refl)
    (IsAscii-append table (47 ∷ id) (name_ascii table name)
    (IsAscii-append (47 ∷ []) id (ascii_word (47 ∷ []) refl) (spelled_ascii id first number.0))))
part_ascii path (inr (w, routed)) = asks_ascii path w routed

-- ---- the response

module _ {D : Type 0} (view : viewers.Ghosts D) (page : Option Text) (path : Text) where
  pub asks_nothing : (desk : D) (r : Result (Vec ℕ Global) Fault) → ¬ (AsksPart path)
      → IfOk r (λ v. v.items ≡ response_of NotFound) → IfErr r (λ f. f.0 ≡ 90)
      → MakesResponse view desk desk r (ShowsTo page path) (AsksPart path)
  asks_nothing desk r none bytes memory = record {
    same = refl;
    kept = leaves_same (view.store desk);
    response = λ p on. IfOk-weaker r _ _ (λ v e. inr (inr (none, e))) bytes;
    needed = IfErr-weaker r _ _ (λ f is other. absurd (let g : 90 ≡ 92 = sym is ∙ other in omega (arith, g))) memory;
    fault = IfErr-weaker r _ _ (λ f is. inl is) memory;
  }

  pub replied : (old new : D) (r : Result (Vec ℕ Global) Fault) (told : Package → Text) → IsReply view old new r told
      → ((p : Package) (bytes : Text) → bytes ≡ told p → ShowsTo page path p bytes) → AsksPart path
      → MakesResponse view old new r (ShowsTo page path) (AsksPart path)
  replied old new r told it shows asks = record {
    same = it.same;
    kept = it.kept;
    response = λ p on. IfOk-weaker r _ _ (λ v e. shows p v.items e) (given (λ v. v.items) (told p) r (it.reply p on));
    needed = IfErr-weaker r _ _ (λ f is other. asks) it.fault;
    fault = IfErr-weaker r _ _ (λ f is. inr is) it.fault;
  }
