-- What the page promises, by what shows the parts of a package, what is read and what is written.
use Rattle.std.specs.Prelude.{ℕ, ◌≡◌, ◌⊎◌, true, Result, Err, IfOk, IfErr, OnOk}
use Rattle.std.specs.declared.io.traits.Read as reads
use Rattle.std.specs.declared.io.traits.Write as writes
use Rattle.std.specs.declared.alloc.Global.{Global}
use Rattle.std.specs.declared.vec.Vec.{Vec}
use Rattle.mm_definitions.specs.Faults as faults
use Rattle.mm_definitions.specs.Keys.{Text}
use Rattle.mm_definitions.specs.Package.{Package}
use Rattle.mm_definitions.specs.Streams.{has_failed, inside, is_flushed}
use Rattle.mm_definitions.specs.declared.answers.Fault.{Fault}
use Rattle.mm_definitions.specs.declared.answers.PageFault.{PageFault}
use Rattle.mm_definitions.specs.declared.streams.Io.{Io}
use Rattle.mm_io.specs.Records.{TellsFailing}
use Rattle.mm_reads.specs.Viewers.{IsOn, IsViewFault, LeavesPackage, ShowsPart}
use Rattle.mm_reads.specs.declared.viewer.Viewer as viewers
use Rattle.mm_page.specs.Asked.{Wanted}
use Rattle.mm_page.specs.Heads.{ReadsNoMore, MostHeadBytes}
use Rattle.mm_page.specs.Responses.{response_of}
use Rattle.mm_page.specs.Page.{reply_of}
use Rattle.mm_page.specs.Served.{AsksForPart, IsPageFault, Served, ServedTo, IsCutResponse}

-- It reads the head of one request, and writes one response.
pub record ServesRequest {V R W : Type 0} (view : viewers.Ghosts V) (read : reads.Ghosts R) (write : writes.Ghosts W)
    (old new : V) (input input_now : Io R) (output output_now : Io W) (result : Result (Unit {0}) PageFault) : Type 0
  where
    -- The viewer has failed where it had, and nowhere else.
    pub same : view.has_failed new ≡ view.has_failed old
    -- It reads as the package that it read as, and a crash leaves no more than before.
    pub kept : LeavesPackage (view.store old) (view.store new)
    -- What was written is the page of the package and of all that the input had still to give, however it is cut.
    pub served : OnOk result (ServedTo (IsOn (view.has_failed old) (view.store old) (view.store new))
        (read.remaining (inside input)) (write.contents (inside output)) (write.contents (inside output_now)))
    -- The output has not failed then, and all is flushed.
    pub working : OnOk result (has_failed output_now ≡ has_failed output)
    pub flushed : OnOk result (is_flushed output_now ≡ true)
    -- Nor has the input failed since.
    pub reading : OnOk result (has_failed input_now ≡ has_failed input)
    -- An input that has failed since is told: by 96.
    pub failing : IfErr result (λ e. TellsFailing (has_failed input) (has_failed input_now) e.0.0)
    -- No more is read than the head needs.
    pub frugal : OnOk result (ReadsNoMore MostHeadBytes (read.remaining (inside input))
        (read.remaining (inside input_now)))
    -- With a fault too, unless it is the input's.
    pub frugal_fault : IfErr result (λ e.
        (e.0.0 ≡ faults.input.0) ⊎ ReadsNoMore MostHeadBytes (read.remaining (inside input))
        (read.remaining (inside input_now)))
    -- 92 is told only where a part of the package is asked for.
    pub needed : IfErr result (λ e. e.0.0 ≡ faults.reopen.0 → AsksForPart (read.remaining (inside input)))
    -- With a fault nothing was written; with 97, the output's, a front of the response.
    pub stopped : IfErr result (λ e. IsCutResponse (view.has_failed old)
        (IsOn (view.has_failed old) (view.store old) (view.store new))
        (read.remaining (inside input)) (has_failed input_now) (write.contents (inside output))
        (write.contents (inside output_now))
        (has_failed output_now) e.0)

-- ---- inside the page

-- It reads the head of one request, and makes the response.
pub record Responds {V R : Type 0} (view : viewers.Ghosts V) (read : reads.Ghosts R)
    (old new : V) (input input_now : Io R) (result : Result (Vec ℕ Global) Fault) : Type 0 where
  pub same : view.has_failed new ≡ view.has_failed old
  pub kept : LeavesPackage (view.store old) (view.store new)
  pub response : IfOk result (λ v. Served (IsOn (view.has_failed old) (view.store old) (view.store new))
      (read.remaining (inside input)) v.items)
  pub reading : OnOk result (has_failed input_now ≡ has_failed input)
  pub failing : IfErr result (λ fault. TellsFailing (has_failed input) (has_failed input_now) fault.0)
  pub frugal : OnOk result (ReadsNoMore MostHeadBytes (read.remaining (inside input))
      (read.remaining (inside input_now)))
  pub frugal_fault : IfErr result (λ fault.
      (fault.0 ≡ faults.input.0) ⊎ ReadsNoMore MostHeadBytes (read.remaining (inside input))
      (read.remaining (inside input_now)))
  pub needed : IfErr result (λ fault. fault.0 ≡ faults.reopen.0 → AsksForPart (read.remaining (inside input)))
  pub fault : IfErr result (λ fault.
      IsPageFault (view.has_failed old) fault ⊎ ((fault.0 ≡ faults.input.0) × (has_failed input_now ≡ true)))

module _ {V : Type 0} (view : viewers.Ghosts V) (old new : V) (result : Result (Vec ℕ Global) Fault) where
  -- It makes the response that is so written of a package; 92 is told only where this is asked of it.
  pub record MakesResponse (Written : Package → Text → Type 0) (Asked : Type 0) : Type 0 where
    pub same : view.has_failed new ≡ view.has_failed old
    pub kept : LeavesPackage (view.store old) (view.store new)
    pub response : (p : Package) → IsOn (view.has_failed old) (view.store old) (view.store new) p
        → IfOk result (λ v. Written p v.items)
    pub needed : IfErr result (λ fault. fault.0 ≡ faults.reopen.0 → Asked)
    pub fault : IfErr result (IsPageFault (view.has_failed old))

  -- It makes the response to what is asked of a package. That is asked before anything else, so that a viewer that has
  -- failed is answered 92 and nothing else.
  pub record Replies (wanted : Wanted) : Type 0 where
    pub same : view.has_failed new ≡ view.has_failed old
    pub kept : LeavesPackage (view.store old) (view.store new)
    pub ended : view.has_failed old ≡ true → result ≡ Err faults.reopen
    pub reply : ShowsPart (IsOn (view.has_failed old) (view.store old) (view.store new)) (λ v. v.items)
        (λ p. response_of (reply_of p wanted)) result
    pub fault : IfErr result (IsViewFault (view.has_failed old))
