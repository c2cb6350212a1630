-- How known bytes move over one more call of a loop.
use Rattle.std.proofs.Common.{◌≡◌, ℕ, ◌+◌, ◌-◌, ◌≤◌, List, ◌++◌, length, take, drop, Option}
use Rattle.std.proofs.Common.{◌∙◌, sym, ap, subst, arith}
use Rattle.std.proofs.KnownBytes.{Appends-trans, Consumes-trans}
use Rattle.std.proofs.Math.Seq.{take-add}
use Rattle.std.proofs.lemmas.List.{length-append, length-take, take_rest}
use Rattle.std.specs.Io.KnownBytes.{Appends, Consumes}
use Rattle.gta_port.specs.Port.{ConsumesSome}

-- after the front of n bytes goes a front of m bytes of the rest
pub front_grows : (old mid new : Option (List ℕ)) (n m : ℕ) (text : List ℕ)
    → Appends old mid (take n text)
    → Appends mid new (take m (take (length text - n) (drop n text)))
    → Appends old new (take (n + m) text)
front_grows old mid new n m text first second =
    let rest : take n text ++ take m (take (length text - n) (drop n text)) ≡ take (n + m) text =
    ap (λ l. take n text ++ take m l) (take_rest text n) ∙ sym (take-add n m text) in
    subst (Appends old new) rest (Appends-trans old mid new _ _ first second)

-- bytes taken, and then at most m of a block
pub some_more_taken : (old mid new : Option (List ℕ)) (bytes block : List ℕ) (m limit : ℕ)
    → Consumes old mid bytes → Consumes mid new (take m block) → length bytes + m ≤ limit
    → ConsumesSome old new (λ n. n ≤ limit)
some_more_taken old mid new bytes block m limit first second within = (
  bytes ++ take m block,
  Consumes-trans old mid new _ _ first second,
  omega (arith, length-append bytes (take m block), length-take m block),
)
