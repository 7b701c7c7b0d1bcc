-- A choice is one of three results: what holds of each of them holds of it. Assumes nothing.
use mathlib.Core.Path.{◌≡◌, refl}
use mathlib.Core.Bool.{Bool, true, false}
use mathlib.Core.List.{List}
use Rattle.lists.specs.Words.{if◌then◌else◌}
use Rattle.rules.specs.Tables.{Request, Table}
use Rattle.rules.specs.Choice.{Result, Pick, nobody, picked, least, due, open?, sending, dropped, by_weight, by_reservation, room, choice}
use Rattle.rules.specs.Chosen.{unsent}
use Rattle.rules.specs.declared.Phase.TheVariants.{Reservation, Weight}
use Rattle.rules.specs.declared.Answer.TheVariants.{Sent}

module _ (P : Result → Type 0) (t : Table)
    (none : P (unsent t))
    (reservation : (p : Request) (v : List Request) → room t ≡ true → least (due t) Request.rtag t.waiting ≡ picked p v
    → P (record { table = sending t p v; answer = Sent Reservation p.guest p.id }))
    (weight : (p : Request) (v : List Request) → room t ≡ true → least (due t) Request.rtag t.waiting ≡ nobody
    → least (open? t) Request.stag t.waiting ≡ picked p v → P (record { table = dropped p (sending t p v); answer = Sent Weight p.guest p.id })) where
  -- nothing is sent; p is sent by reservation; p is sent by weight
  pub choice_by : P (choice t)
  unfolding choice by_reservation by_weight
  choice_by = go (room t) refl
    where
      weigh : room t ≡ true → least (due t) Request.rtag t.waiting ≡ nobody → (k : Pick) → least (open? t) Request.stag t.waiting ≡ k → P (by_weight t k)
      weigh f n nobody e = none
      weigh f n (picked p v) e = weight p v f n e

      reserve : room t ≡ true → (k : Pick) → least (due t) Request.rtag t.waiting ≡ k → P (by_reservation t k)
      reserve f nobody e = weigh f e (least (open? t) Request.stag t.waiting) refl
      reserve f (picked p v) e = reservation p v f e

      go : (b : Bool) → room t ≡ b → P (if b then by_reservation t (least (due t) Request.rtag t.waiting) else unsent t)
      go true f = reserve f (least (due t) Request.rtag t.waiting) refl
      go false f = none
