use Rattle.std.proofs.Common.{rules, w64, ◌≡◌, ◌∙◌, ◌-◌, ◌+◌, ◌≤◌, ◌++◌, ◌∷◌, [], List, map, take, length, get_or, sym}
use Rattle.std.proofs.Common.{ap, arith}
use Rattle.std.proofs.Math.Facts.{to_z-of_z}
use mir.Val.{SFits}
use Rattle.std.proofs.lemmas.List.{map-append, take_all, take_more}
use Rattle.mm_reads.specs.RowLists.{numbered_told}
use Rattle.mm_show.proofs.showing.next_first.Goals as goal

ends_with : {X : Type 0} (xs : List X) (d : X) → 1 ≤ length xs → xs ≡ take (length xs - 1) xs
    ++ get_or xs (length xs - 1) d ∷ []
ends_with xs d some =
    let n = length xs - 1 in
    sym (take_all (n + 1) xs (omega arith)) ∙ take_more xs n d (omega (arith, some))

pub returns : goal.returns
returns c =
    let rows = c.args.rows.now in
    let item = c.index-rows-rows.result in
    let last : rows ≡ take (length rows - 1) rows ++ item ∷ [] =
    ends_with rows item (omega (arith, c.if-rows-lt-MOST_ROWS.false))
    ∙ ap (λ e. take (length rows - 1) rows ++ e ∷ []) (sym c.index-rows-rows.is) in
    let told = ap (map numbered_told) last ∙ map-append numbered_told (take (length rows - 1) rows) (item ∷ []) in
    let fits : SFits w64 c.in_ok-next.next = search rules in (
      map numbered_told (take (length rows - 1) rows),
      numbered_told item,
      told,
      to_z-of_z fits
          ∙ c.in_ok-next.ensures.next,
    )
