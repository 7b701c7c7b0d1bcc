-- The count moves on by the bytes that a call moved, and stays where it moved none. Assumes nothing.
use Rattle.std.proofs.Common.{◌≡◌, ℕ, ◌+◌, ◌%◌, ◌^◌, ◌≤◌, Result, IfOk, List, length, take, sym, refl, ap, ◌∙◌, subst, arith, length-append, length-take-le}
use Rattle.tape.specs.Tape.{Tape, Holds, grown, stays}
use Rattle.port.specs.Moves.{Goes, brought, took, Answers, Counts}
use Rattle.port.specs.declared.Moved.{Moved}
use Rattle.port.specs.declared.Moved.TheVariants.{Bytes, Nothing, Failed}

-- a count m that no call has moved from n yet, and r after it moved k bytes of bs
module _ (bs : List ℕ) (k n m r : ℕ) (room : k ≤ length bs) (e : m ≡ n) (p : r ≡ (m + k) % 2 ^ 64) where
  on : (t u : Tape) → length u.read + length u.wrote ≡ length t.read + length t.wrote + k → Holds n t → Holds r u
  on t u g h = subst (λ (x : ℕ). Holds x u) (sym (p ∙ ap (λ (x : ℕ). (x + k) % 2 ^ 64) e)) (grown n k t u g h)

  pub bytes-brought : Goes (brought (Bytes k) bs) n r
  bytes-brought t h = on t _ (omega (arith, length-append t.read (take k bs), length-take-le k bs room)) h

  pub bytes-taken : Goes (took (Bytes k) bs) n r
  bytes-taken t h = on t _ (omega (arith, length-append t.wrote (take k bs), length-take-le k bs room)) h

-- no byte was moved
module _ (bs : List ℕ) (n m : ℕ) (e : m ≡ n) where
  at : (t u : Tape) → length u.read + length u.wrote ≡ length t.read + length t.wrote → Holds n t → Holds m u
  at t u g h = subst (λ (x : ℕ). Holds x u) (sym e) (stays n t u g h)

  pub none-brought : Goes (brought Nothing bs) n m
  none-brought t h = at t _ refl h

  pub read_failed : Goes (brought Failed bs) n m
  read_failed t h = at t _ refl h

  pub none-taken : Goes (took Nothing bs) n m
  none-taken t h = at t _ refl h

  pub write_failed : Goes (took Failed bs) n m
  write_failed t h = at t _ refl h

-- whatever one call answered
module _ {E : Type 0} (bs : List ℕ) (n m r : ℕ) (a : Result ℕ E) (P : ℕ → Type 0) (most : IfOk a P) (room : (k : ℕ) → P k → k ≤ length bs) (e : m ≡ n) where
  pub goes-brought : (w : Moved) → Answers w a → Counts w m r → Goes (brought w bs) n r
  goes-brought (Bytes k) h p = bytes-brought bs k n m r (room k (rw h.0 at most)) e p
  goes-brought Nothing h p = none-brought bs n r (p ∙ e)
  goes-brought Failed h p = read_failed bs n r (p ∙ e)

  pub goes-taken : (w : Moved) → Answers w a → Counts w m r → Goes (took w bs) n r
  goes-taken (Bytes k) h p = bytes-taken bs k n m r (room k (rw h.0 at most)) e p
  goes-taken Nothing h p = none-taken bs n r (p ∙ e)
  goes-taken Failed h p = write_failed bs n r (p ∙ e)
