-- `salsa::store` meets its contract: words that are written one behind the other are their bytes.
use Rattle.std.proofs.Common.{rules, ◌≡◌, length, get_or, ℕ, ap, sym, ◌∙◌}
use Rattle.std.proofs.lemmas.List.Edits.{sets}
use Rattle.lent.specs.Bytes.{joined}
use Rattle.lent.specs.Word.{le}
use Rattle.salsa.proofs.Coding.{joined-bytes}
use Rattle.salsa.proofs.store.Goals as goal

pub returns : goal.returns
returns c =
    let x = c.args.x in
    let long : length x ≡ 16 = search rules in
    c.store.ensures ∙ ap (sets c.args.s.now c.args.at) (ap (λ (n : ℕ). joined n (λ i. le 4 (get_or x i 0))) (sym long) ∙ joined-bytes x)
