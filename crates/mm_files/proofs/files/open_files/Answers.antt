use Rattle.std.proofs.Common.{◌∙◌, refl, inl, ap₂, subst}
use Rattle.sqlite_store.specs.Laws.{settled_at}
use Rattle.sqlite.specs.Files.{file_state}
use Rattle.sqlite.specs.Start.{FindsIn}
use Rattle.mm_files.specs.Files.{HoldNoByte}
use Rattle.mm_files.proofs.Fresh.{image, only_held, seen}
use Rattle.mm_files.proofs.files.open_files.Goals as goal

pub returns-in-Ok-open_files-clause-found : goal.returns-in-Ok-open_files-clause-found
returns-in-Ok-open_files-clause-found g c = rw c.set_clock.ensures λ clean.
    let (log, db) = c.in-Ok-files_at.ensures.fresh in
    let found = c.in-Ok-open_files.ensures.found clean in
    let read = ap₂ image c.in-Ok-files_to_use.ensures.log.seen c.in-Ok-files_to_use.ensures.db.seen in
    let same = ap₂ image (ap₂ (seen g.S.Start.log g.S.Start.db) log.0 log.1)
    (ap₂ (seen g.S.Start.log g.S.Start.db) db.0 db.1) in
    subst (λ i. FindsIn i (file_state c.in-Ok-open_files.conn)) (read ∙ same)
    (record { holds = found.holds; reads = found.reads })

pub returns-in-Ok-open_files-clause-bare : goal.returns-in-Ok-open_files-clause-bare
returns-in-Ok-open_files-clause-bare g c = rw c.set_clock.ensures λ none clean.
    let (log, db) = c.in-Ok-files_at.ensures.fresh in
    let same = ap₂ image (ap₂ (seen g.S.Start.log g.S.Start.db) log.0 log.1)
    (ap₂ (seen g.S.Start.log g.S.Start.db) db.0 db.1) in
    subst HoldNoByte same (c.in-Ok-files_to_use.ensures.bare none (c.in-Ok-open_files.ensures.found clean).honest)

pub returns-in-Ok-open_files-clause-just : goal.returns-in-Ok-open_files-clause-just
returns-in-Ok-open_files-clause-just g c = rw c.set_clock.ensures λ clean.
    let opened = c.in-Ok-open_files.ensures.opened clean in
    (opened.0, opened.1, λ db may. settled_at c.in-Ok-open_files.conn.store (λ f. inl refl) db opened.0.is_open may)

pub returns-in-Err-open_files-clause-left : goal.returns-in-Err-open_files-clause-left
returns-in-Err-open_files-clause-left g c clean =
    let (log, db) = c.in-Ok-files_at.ensures.fresh in
    let reads = c.in-Ok-files_to_use.ensures in (
      c.in-Ok-files_to_use.files,
      record {
        seen = ap₂ image reads.log.seen reads.db.seen
            ∙ ap₂ image (ap₂ (seen g.S.Start.log g.S.Start.db) log.0 log.1)
            (ap₂ (seen g.S.Start.log g.S.Start.db) db.0 db.1);
        only = λ left may. ap₂ image
            (only_held g.S.Start.is_mixing left.log g.S.Start.log g.S.Start.db _ _ _ _ log.0 log.1
            (reads.log.crash _ may.0))
            (only_held g.S.Start.is_mixing left.db g.S.Start.log g.S.Start.db _ _ _ _ db.0 db.1
            (reads.db.crash _ may.1));
      },
      c.in-Err-open_files.ensures.unharmed clean,
    )

pub returns-in-Err-files_to_use-clause-left : goal.returns-in-Err-files_to_use-clause-left
returns-in-Err-files_to_use-clause-left g c clean =
    let (log, db) = c.in-Ok-files_at.ensures.fresh in
    let reads = c.in-Err-files_to_use.ensures in (
      c.in-Ok-files_at.opened.files,
      record {
        seen = ap₂ image (ap₂ (seen g.S.Start.log g.S.Start.db) log.0 log.1)
            (ap₂ (seen g.S.Start.log g.S.Start.db) db.0 db.1);
        only = λ left may. ap₂ image
            (only_held g.S.Start.is_mixing left.log g.S.Start.log g.S.Start.db _ _ _ _ log.0 log.1 may.0)
            (only_held g.S.Start.is_mixing left.db g.S.Start.log g.S.Start.db _ _ _ _ db.0 db.1 may.1);
      },
      λ left may. (reads.log_left.crash _ may.0, reads.db_left.crash _ may.1),
    )
