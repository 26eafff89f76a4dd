use Rattle.std.proofs.Common.{◌≡◌, inl, inr}
use Rattle.mm_page.specs.Asked.{IsRouted}
use Rattle.mm_page.specs.Responses.{response_of}
use Rattle.mm_page.specs.Routes.{asked}
use Rattle.mm_page.specs.Page.{WritesTo, reply_of}
use Rattle.std.proofs.lemmas.Result.{IfErr-weaker}
use Rattle.mm_page.proofs.ServeFacts.{given, weaker}
use Rattle.mm_page.proofs.serving.path_response.Goals as goal

pub returns-in-Some : goal.returns-in-Some
returns-in-Some g c =
    let wanted = asked c.in-Some.wanted in
    let asks : IsRouted c.args.path.now wanted = rw c.in-Some.is at c.in_ok-wanted.ensures.wanted in
    record {
      same = c.reply.ensures.same;
      kept = c.reply.ensures.kept;
      response = λ p on.
          weaker (λ v. v.items ≡ response_of (reply_of p wanted)) (λ v. WritesTo p c.args.path.now v.items)
          c.reply.result
          (λ v e. inl (wanted, asks, e))
          (given (λ v. v.items) (response_of (reply_of p wanted)) c.reply.result (c.reply.ensures.reply p on));
      needed = IfErr-weaker c.reply.result _ _ (λ fault told is. (wanted, asks)) c.reply.ensures.fault;
      fault = IfErr-weaker c.reply.result _ _ (λ fault told. inr told) c.reply.ensures.fault;
    }
