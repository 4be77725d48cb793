-- `octets::get` meets its contract: chunk i of eight bytes is word i; nothing is said of a word that is not there.
use Rattle.std.proofs.Common.{ℕ, List, [], get_or, ap, ◌∙◌, arith}
use Rattle.std.specs.Int.{w64, from_le_bytes}
use Rattle.octets.proofs.Little.{chunk_word}
use Rattle.octets.proofs.get.Goals as goal

pub returns-in-Some : goal.returns-in-Some
returns-in-Some c =
    let h = c.in-Some.ensures.lookup in
    λ _. c.from_le_bytes.ensures ∙ ap (from_le_bytes w64) (h.3.1 [] ∙ ap (λ (x : List (List ℕ)). get_or x c.args.i []) c.as_chunks.ensures.front) ∙ chunk_word _ c.args.i c.args.bs.now (omega (arith, h.3.0, c.as_chunks.ensures.front_len))
