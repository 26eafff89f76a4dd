use Rattle.std.proofs.Common.{◌≡◌, ◌∙◌, false, inl, inr, subst, sym, true}
use Rattle.std.proofs.lemmas.Result.{IfErr-weaker}
use Rattle.mm_definitions.specs.Package.{Package}
use Rattle.mm_definitions.specs.Streams.{inside}
use Rattle.mm_page.specs.Asked.{IsRouted}
use Rattle.mm_page.specs.Page.{Writes, path_of}
use Rattle.mm_page.specs.Served.{Served}
use Rattle.mm_reads.specs.Viewers.{IsOn}
use Rattle.mm_page.proofs.ServeFacts.{err_so, ok_so, under, weaker}
use Rattle.mm_page.proofs.serving.respond.Goals as goal

pub returns-in-Some : goal.returns-in-Some
returns-in-Some g c =
    let old = c.args.viewer.now in
    let on = IsOn (g.V.Viewer.has_failed old) (g.V.Viewer.store old) (g.V.Viewer.store c.head_response.new.viewer) in
    let all = under {X = (p : Package) × on p} (λ x v. Writes x.0 c.of.result.now c.of-in-Some.result.now v.items)
    c.head_response.result (λ x. c.head_response.ensures.response x.0 x.1) in
    record {
      same = c.head_response.ensures.same;
      kept = c.head_response.ensures.kept;
      response =
          weaker _ (λ v. Served on (g.R.Read.remaining (inside c.args.reader.now)) v.items) c.head_response.result
          (λ v w p st input e.
          let (fits, within, h, is, at) = rw (e, c.in-Some.is) at c.in_ok-n.ensures.head in
          let method = c.of.ensures ∙ at.method in
          let target = c.of-in-Some.ensures ∙ at.path in
          inl (
            h,
            is,
            subst (λ t. Writes p h.method t v.items) target
                (subst (λ m. Writes p m c.of-in-Some.result.now v.items) method (w (p, st))),
          ))
          all;
      reading = ok_so c.head_response.result c.in_ok-n.ensures.working;
      failing = err_so _ c.head_response.result
          (λ fault first down. absurd (let g : false ≡ true = sym (c.in_ok-n.ensures.working ∙ first) ∙ down in cc));
      frugal = ok_so c.head_response.result c.in_ok-n.ensures.frugal;
      frugal_fault = err_so _ c.head_response.result (λ fault. inr c.in_ok-n.ensures.frugal);
      needed =
          IfErr-weaker c.head_response.result _ _
          (λ fault asked is input e.
          let (fits, within, h, head, at) = rw (e, c.in-Some.is) at c.in_ok-n.ensures.head in
          let it = asked is in (
            h,
            head,
            sym (c.of.ensures ∙ at.method) ∙ it.0,
            it.1,
            subst (λ t. IsRouted (path_of t) it.1)
                (c.of-in-Some.ensures ∙ at.path) it.2,
          ))
          c.head_response.ensures.needed;
      fault = IfErr-weaker c.head_response.result _ _ (λ fault it. inl it) c.head_response.ensures.fault;
    }
