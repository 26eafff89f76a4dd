use Rattle.std.proofs.Common.{◌≡◌, Ok, arith, sym, ap, ◌∙◌}
use Rattle.std.proofs.lemmas.Result.{IfOk-at_ok}
use Rattle.std.proofs.lemmas.Slice.Eq.{bytes_eq-Decides}
use Rattle.std.specs.String.{string_bytes}
use Rattle.hex.specs.Hex.{IsBytes, decode_of, encode_lower}
use Rattle.hex.proofs.HexLemmas.{decode_of-encode_lower}
use Rattle.mm_definitions.proofs.hexadecimal.spells.Goals as goal

pub returns : goal.returns
returns c =
    let text : string_bytes c.in_ok-spelled.spelled ≡ encode_lower c.args.bytes.now = IfOk-at_ok _ c.in_ok-spelled.was
    c.encode.ensures in
    let fits : IsBytes c.args.bytes.now = λ i. let f = c.type_inv.bytes i in omega arith in
    let back : decode_of c.as_str.result.now ≡ Ok c.args.bytes.now = rw (c.as_str.ensures.value, text)
    (decode_of-encode_lower c.args.bytes.now fits) in
    let decides = bytes_eq-Decides c.as_str.result.now c.args.text.now in
    λ yes. (let same : c.as_str.result.now ≡ c.args.text.now = decides.0 (sym c.eq.ensures ∙ yes) in sym
    (ap decode_of same) ∙ back)
