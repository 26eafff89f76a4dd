use Rattle.std.proofs.Common.{◌≡◌, ◌∙◌, ap, codes, map, rules, string_bytes}
use Rattle.mm_reads.specs.Contents as listing
use Rattle.mm_page.specs.Responses.{Found, response_of}
use Rattle.mm_page.specs.Lists.{tables_text}
use Rattle.mm_reads.specs.Shown.{shown_tables}
use Rattle.mm_page.proofs.ServeFacts.{gives, never_so, told, wants_memory, works}
use Rattle.mm_page.proofs.replies.contents_reply.Goals as goal

pub returns-in-Ok : goal.returns-in-Ok
returns-in-Ok g c = record {
  same = c.in_ok-tables.ensures.same;
  kept = c.in_ok-tables.ensures.kept;
  reply = λ p on.
      let listed : map listing.table_told c.in_ok-tables.tables.items ≡ shown_tables p = c.in_ok-tables.ensures.value p
      on in
      let given : c.deref.result.now ≡ c.in_ok-tables.tables.items = search rules in
      let text : string_bytes c.in-Ok.text ≡ tables_text (shown_tables p) = c.in-Ok.ensures
      ∙ ap (λ l. tables_text (map listing.table_told l)) given ∙ ap tables_text listed in
      let body : c.as_bytes.result.now ≡ tables_text (shown_tables p) =
      (let e : c.as_bytes.result.now ≡ string_bytes c.in-Ok.text = search rules in e ∙ text) in
      gives (λ v. v.items) (response_of (Found (codes "application/json") (tables_text (shown_tables p)))) c.printed.result
      (told (λ v. v.items ≡ response_of (Found (codes "application/json") (tables_text (shown_tables p)))) c.printed.result c.found.result c.printed.ensures.ok (rw body at c.found.ensures));
  ended = never_so _ c.in_ok-tables.tables c.printed.result c.in_ok-tables.ensures.ended;
  fault = wants_memory _ c.printed.result (works _ c.in_ok-tables.tables c.in_ok-tables.ensures.ended)
      c.printed.ensures.err;
}
