-- What is inside of a reader or a writer that is looked at.
use Rattle.mm_remarks.specs.declared.following.Heard.{Heard}
use Rattle.mm_remarks.specs.declared.following.Watched.{Watched}

-- the reader inside
abbrev pub heard_reader : {R H : Type 0} → Heard R H → R
heard_reader it = it.inner

-- the writer inside
abbrev pub watched_writer : {W E : Type 0} → Watched W E → W
watched_writer it = it.inner
