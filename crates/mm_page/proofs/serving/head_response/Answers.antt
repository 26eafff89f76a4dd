use Rattle.std.proofs.Common.{◌≡◌, ◌∙◌, ap, inr, codes, sym, subst}
use Rattle.std.proofs.lemmas.Result.{IfErr-weaker}
use Rattle.std.proofs.lemmas.Slice.Eq.{bytes_eq-Decides}
use Rattle.mm_page.specs.Asked.{IsRouted}
use Rattle.mm_page.specs.Page.{Writes, WritesTo, path_of}
use Rattle.mm_page.proofs.ServeFacts.{weaker}
use Rattle.mm_page.proofs.serving.head_response.Goals as goal

pub returns : goal.returns
returns g c =
    let get : c.args.method.now ≡ codes "GET" = (bytes_eq-Decides c.args.method.now (codes "GET")).0 (sym c.if-not-is_get.ensures) in
    let path : c.before_query.result.now ≡ path_of c.args.target.now = c.before_query.ensures
    ∙ ap path_of c.in-Ok.ensures.cases.0 in
    record {
      same = c.path_response.ensures.same;
      kept = c.path_response.ensures.kept;
      response = λ p on.
          weaker (λ v. WritesTo p c.before_query.result.now v.items)
          (λ v. Writes p c.args.method.now c.args.target.now v.items) c.path_response.result
          (λ v e. inr (get, subst (λ x. WritesTo p x v.items) path e)) (c.path_response.ensures.response p on);
      needed =
          IfErr-weaker c.path_response.result _ _
          (λ fault asked is. let it = asked is in (get, it.0, subst (λ x. IsRouted x it.0) path it.1))
          c.path_response.ensures.needed;
      fault = c.path_response.ensures.fault;
    }
