-- The rows of figures: what stands in each once an event or a send is counted, and which figures that is. Assumes nothing.
use Rattle.std.proofs.Common.{◌≡◌, ℕ, zero, suc, ◌+◌, ◌-◌, ◌*◌, ◌/◌, ◌%◌, ◌^◌, ◌<◌, ◌≤◌, max, Bool, ◌⊎◌, List, length, get_or, sym, ap, ◌∙◌, ap₂, inl, inr, div-lt_iff_lt-mul, add-mul, div-add-mod', arith, lit<, lit≤, length-set, get_or-set_other, get_or-set_same}
use Rattle.lists.specs.Words.{if◌then◌else◌}
use Rattle.lists.specs.Tab.{length-tab, get_or-tab, is_tab, lt_or_le, eq_or_not}
use Rattle.lists.specs.Stores.{length-stores, stores_other, stores_at}
use Rattle.rules.specs.declared.Phase.{Phase}
use Rattle.rules.specs.declared.Phase.TheVariants.{Reservation, Weight}
use Rattle.book.specs.Figures.{Figures, unseen, figures_at, change, arrived, completed, sent_by}
use Rattle.tally.specs.Columns.{ARRIVALS, COMPLETIONS, RESERVED, WEIGHED, AHEAD, UPPER, LOWER, LONGEST, figures_wide, figure_at}
use Rattle.tally.specs.Kept.{figures_in, figures_of}
use Rattle.tally.specs.Notes.{one_more, send_line, sent_at, sent_for}

-- one row has changed by c, and the others are as they were: so have the figures
module _ (n g : ℕ) (fg hg : List ℕ) (c : Figures → Figures) (known : g < n) (here : figures_in hg g ≡ c (figures_in fg g))
    (others : (k j : ℕ) → (k ≡ g → ⊥) → j < figures_wide → figure_at hg k j ≡ figure_at fg k j) where
  other : (k : ℕ) → (k ≡ g → ⊥) → figures_in hg k ≡ figures_in fg k
  other k d i =
      record {
        arrivals = others k ARRIVALS d (lit< tt) i;
        completions = others k COMPLETIONS d (lit< tt) i;
        reservation = others k RESERVED d (lit< tt) i;
        weight = others k WEIGHED d (lit< tt) i;
        ahead = others k AHEAD d (lit< tt) i;
        longest = others k LONGEST d (lit< tt) i;
        summed = others k UPPER d (lit< tt) i * 2 ^ 64 + others k LOWER d (lit< tt) i;
      }

  pub changed : figures_of hg n ≡ change g c (figures_of fg n)
  changed =
      is_tab unseen n (figures_in hg) (change g c (figures_of fg n)) (length-set (figures_of fg n) g (c (figures_at (figures_of fg n) g)) ∙ length-tab n (figures_in fg))
      (λ k l. one k l (eq_or_not k g))
    where
      one : (k : ℕ) → k < n → (k ≡ g) ⊎ (k ≡ g → ⊥) → figures_in hg k ≡ figures_at (change g c (figures_of fg n)) k
      one k l (inl e) =
          ap (figures_in hg) e ∙ here ∙ ap c (sym (get_or-tab n (figures_in fg) g unseen known))
          ∙ sym (ap (figures_at (change g c (figures_of fg n))) e ∙ get_or-set_same (figures_of fg n) g (c (figures_at (figures_of fg n) g)) unseen (omega (arith, length-tab n (figures_in fg))))
      one k l (inr d) =
          other k d ∙ sym (get_or-set_other (figures_of fg n) g k (c (figures_at (figures_of fg n) g)) unseen d ∙ get_or-tab n (figures_in fg) k unseen l)

-- ONE MORE in a column

module _ (g i : ℕ) (fg : List ℕ) (row : g * figures_wide + figures_wide ≤ length fg) (inside : i < figures_wide) where
  -- there
  pub one-here : figure_at (one_more g i fg) g i ≡ figure_at fg g i + 1
  one-here = get_or-set_same fg (g * figures_wide + i) (figure_at fg g i + 1) 0 (omega arith)

  -- in the guest's other columns nothing changes
  pub one_beside : (j : ℕ) → (j ≡ i → ⊥) → figure_at (one_more g i fg) g j ≡ figure_at fg g j
  one_beside j d = get_or-set_other fg (g * figures_wide + i) (g * figures_wide + j) (figure_at fg g i + 1) 0 (λ e. d (omega arith))

  -- nor in the other guests' rows
  pub one-others : (k j : ℕ) → (k ≡ g → ⊥) → j < figures_wide → figure_at (one_more g i fg) k j ≡ figure_at fg k j
  one-others k j d l = get_or-set_other fg (g * figures_wide + i) (k * figures_wide + j) (figure_at fg g i + 1) 0 (λ e. d (omega arith))

  -- the list is as long as it was
  pub length-one : length (one_more g i fg) ≡ length fg
  length-one = length-set fg (g * figures_wide + i) (figure_at fg g i + 1)

module _ (n g : ℕ) (fg : List ℕ) (known : g < n) (row : g * figures_wide + figures_wide ≤ length fg) where
  -- an arrival is counted
  pub arrived_is : figures_of (one_more g ARRIVALS fg) n ≡ change g arrived (figures_of fg n)
  arrived_is = changed n g fg (one_more g ARRIVALS fg) arrived known here (one-others g ARRIVALS fg row (lit< tt))
    where
      beside : (j : ℕ) → (j ≡ ARRIVALS → ⊥) → figure_at (one_more g ARRIVALS fg) g j ≡ figure_at fg g j
      beside = one_beside g ARRIVALS fg row (lit< tt)

      here : figures_in (one_more g ARRIVALS fg) g ≡ arrived (figures_in fg g)
      here i =
          record {
            arrivals = one-here g ARRIVALS fg row (lit< tt) i;
            completions = beside COMPLETIONS (λ e. omega arith) i;
            reservation = beside RESERVED (λ e. omega arith) i;
            weight = beside WEIGHED (λ e. omega arith) i;
            ahead = beside AHEAD (λ e. omega arith) i;
            longest = beside LONGEST (λ e. omega arith) i;
            summed = beside UPPER (λ e. omega arith) i * 2 ^ 64 + beside LOWER (λ e. omega arith) i;
          }

  -- a completion is counted
  pub completed_is : figures_of (one_more g COMPLETIONS fg) n ≡ change g completed (figures_of fg n)
  completed_is = changed n g fg (one_more g COMPLETIONS fg) completed known here (one-others g COMPLETIONS fg row (lit< tt))
    where
      beside : (j : ℕ) → (j ≡ COMPLETIONS → ⊥) → figure_at (one_more g COMPLETIONS fg) g j ≡ figure_at fg g j
      beside = one_beside g COMPLETIONS fg row (lit< tt)

      here : figures_in (one_more g COMPLETIONS fg) g ≡ completed (figures_in fg g)
      here i =
          record {
            arrivals = beside ARRIVALS (λ e. omega arith) i;
            completions = one-here g COMPLETIONS fg row (lit< tt) i;
            reservation = beside RESERVED (λ e. omega arith) i;
            weight = beside WEIGHED (λ e. omega arith) i;
            ahead = beside AHEAD (λ e. omega arith) i;
            longest = beside LONGEST (λ e. omega arith) i;
            summed = beside UPPER (λ e. omega arith) i * 2 ^ 64 + beside LOWER (λ e. omega arith) i;
          }

-- A SEND

-- what is carried into the upper number and what stays in the lower are the sum
carried : (u l w : ℕ) → (u + (l + w) / 2 ^ 64) * 2 ^ 64 + (l + w) % 2 ^ 64 ≡ u * 2 ^ 64 + l + w
carried u l w =
    ap (λ (x : ℕ). x + (l + w) % 2 ^ 64) (add-mul u ((l + w) / 2 ^ 64) (2 ^ 64))
    ∙ regroup (u * 2 ^ 64) ((l + w) / 2 ^ 64 * 2 ^ 64) ((l + w) % 2 ^ 64) l w (div-add-mod' (l + w) (2 ^ 64))
  where
    regroup : (x y m l w : ℕ) → y + m ≡ l + w → x + y + m ≡ x + l + w
    regroup x y m l w e = omega arith

module _ (g r w a wait : ℕ) (fg : List ℕ) (row : g * figures_wide + figures_wide ≤ length fg) where
  -- in the six columns
  pub sent_here : (j : ℕ) → j < 6 → figure_at (sent_at g r w a wait fg) g (RESERVED + j) ≡ get_or (send_line g r w a wait fg) j 0
  sent_here j l =
      stores_at (λ i. g * figures_wide + (RESERVED + i)) (λ i. get_or (send_line g r w a wait fg) i 0) fg (λ x y h e. omega arith) 6 j l (omega arith)

  -- in the two before them nothing changes
  pub sent_beside : (j : ℕ) → j < RESERVED → figure_at (sent_at g r w a wait fg) g j ≡ figure_at fg g j
  sent_beside j l = stores_other (λ i. g * figures_wide + (RESERVED + i)) (λ i. get_or (send_line g r w a wait fg) i 0) fg 6 (g * figures_wide + j) (λ i b e. omega arith)

  -- nor in the other guests' rows
  pub sent_others : (k j : ℕ) → (k ≡ g → ⊥) → j < figures_wide → figure_at (sent_at g r w a wait fg) k j ≡ figure_at fg k j
  sent_others k j d l =
      stores_other (λ i. g * figures_wide + (RESERVED + i)) (λ i. get_or (send_line g r w a wait fg) i 0) fg 6 (k * figures_wide + j) (λ i b e. d (omega arith))

  -- the list is as long as it was
  pub length_sent : length (sent_at g r w a wait fg) ≡ length fg
  length_sent = length-stores (λ i. g * figures_wide + (RESERVED + i)) (λ i. get_or (send_line g r w a wait fg) i 0) fg 6

  -- the figures of its guest, with so many more
  pub sent_row : figures_in (sent_at g r w a wait fg) g
      ≡ record {
        arrivals = figure_at fg g ARRIVALS;
        completions = figure_at fg g COMPLETIONS;
        reservation = figure_at fg g RESERVED + r;
        weight = figure_at fg g WEIGHED + w;
        ahead = figure_at fg g AHEAD + a;
        longest = max (figure_at fg g LONGEST) wait;
        summed = figure_at fg g UPPER * 2 ^ 64 + figure_at fg g LOWER + wait;
      }
  sent_row i =
      record {
        arrivals = sent_beside ARRIVALS (lit< tt) i;
        completions = sent_beside COMPLETIONS (lit< tt) i;
        reservation = sent_here 0 (lit< tt) i;
        weight = sent_here 1 (lit< tt) i;
        ahead = sent_here 2 (lit< tt) i;
        longest = sent_here 5 (lit< tt) i;
        summed = (ap₂ (λ (u l : ℕ). u * 2 ^ 64 + l) (sent_here 3 (lit< tt)) (sent_here 4 (lit< tt)) ∙ carried (figure_at fg g UPPER) (figure_at fg g LOWER) wait) i;
      }

-- none more
none_more : (x : ℕ) → x + 0 ≡ x
none_more x = omega arith

-- a send is counted
pub sent_is : (phase : Phase) (n g : ℕ) (ahead : Bool) (wait : ℕ) (fg : List ℕ) → g < n → g * figures_wide + figures_wide ≤ length fg
    → figures_of (sent_for phase g ahead wait fg) n ≡ change g (sent_by phase ahead wait) (figures_of fg n)
sent_is Reservation n g ahead wait fg known row = changed n g fg (sent_for Reservation g ahead wait fg) (sent_by Reservation ahead wait) known here (sent_others g 1 0 (if ahead then 1 else 0) wait fg row)
  where
    here : figures_in (sent_for Reservation g ahead wait fg) g ≡ sent_by Reservation ahead wait (figures_in fg g)
    here =
        sent_row g 1 0 (if ahead then 1 else 0) wait fg row
        ∙ (λ i. record {
          arrivals = figure_at fg g ARRIVALS;
          completions = figure_at fg g COMPLETIONS;
          reservation = figure_at fg g RESERVED + 1;
          weight = none_more (figure_at fg g WEIGHED) i;
          ahead = figure_at fg g AHEAD + (if ahead then 1 else 0);
          longest = max (figure_at fg g LONGEST) wait;
          summed = figure_at fg g UPPER * 2 ^ 64 + figure_at fg g LOWER + wait;
        })
sent_is Weight n g ahead wait fg known row = changed n g fg (sent_for Weight g ahead wait fg) (sent_by Weight ahead wait) known here (sent_others g 0 1 0 wait fg row)
  where
    here : figures_in (sent_for Weight g ahead wait fg) g ≡ sent_by Weight ahead wait (figures_in fg g)
    here =
        sent_row g 0 1 0 wait fg row
        ∙ (λ i. record {
          arrivals = figure_at fg g ARRIVALS;
          completions = figure_at fg g COMPLETIONS;
          reservation = none_more (figure_at fg g RESERVED) i;
          weight = figure_at fg g WEIGHED + 1;
          ahead = none_more (figure_at fg g AHEAD) i;
          longest = max (figure_at fg g LONGEST) wait;
          summed = figure_at fg g UPPER * 2 ^ 64 + figure_at fg g LOWER + wait;
        })

-- WHAT GROWS BY ONE AT THE MOST

-- two numbers below 2^64 carry at most one
carries_one : (l w : ℕ) → l < 2 ^ 64 → w < 2 ^ 64 → (l + w) / 2 ^ 64 ≤ 1
carries_one l w p q =
    let z : (l + w) / 2 ^ 64 < 2 = (div-lt_iff_lt-mul {k = 2 ^ 64} {x = l + w} {y = 2} (lit< tt)).1 (omega arith) in
    omega arith

module _ (n m g r w a wait : ℕ) (fg : List ℕ) (known : g < m) (room : m * figures_wide ≤ length fg) (ones : (r ≤ 1) × (w ≤ 1) × (a ≤ 1)) (low : figure_at fg g LOWER < 2 ^ 64) (short : wait < 2 ^ 64)
    (few : (k j : ℕ) → k < m → j ≤ UPPER → figure_at fg k j ≤ n + 1) (fewer : (k j : ℕ) → k < m → RESERVED ≤ j → j ≤ UPPER → figure_at fg k j ≤ n) where
  its_row : g * figures_wide + figures_wide ≤ length fg
  its_row = omega arith

  grown : (i : ℕ) → i < 4 → figure_at (sent_at g r w a wait fg) g (RESERVED + i) ≤ n + 1
  grown zero l = omega (arith, sent_here g r w a wait fg its_row 0 (lit< tt), fewer g RESERVED known (lit≤ tt) (lit≤ tt), ones.0)
  grown (suc zero) l = omega (arith, sent_here g r w a wait fg its_row 1 (lit< tt), fewer g WEIGHED known (lit≤ tt) (lit≤ tt), ones.1)
  grown (suc (suc zero)) l = omega (arith, sent_here g r w a wait fg its_row 2 (lit< tt), fewer g AHEAD known (lit≤ tt) (lit≤ tt), ones.2)
  grown (suc (suc (suc zero))) l =
      omega (arith, sent_here g r w a wait fg its_row 3 (lit< tt), fewer g UPPER known (lit≤ tt) (lit≤ tt), carries_one (figure_at fg g LOWER) wait low short)
  grown (suc (suc (suc (suc i)))) l = absurd (omega arith)

  pub few_sent : (k j : ℕ) → k < m → j ≤ UPPER → figure_at (sent_at g r w a wait fg) k j ≤ n + 1
  few_sent k j h l = go (eq_or_not k g) (lt_or_le j RESERVED)
    where
      go : (k ≡ g) ⊎ (k ≡ g → ⊥) → (j < RESERVED) ⊎ (RESERVED ≤ j) → figure_at (sent_at g r w a wait fg) k j ≤ n + 1
      go (inl e) (inl b) = rw e (omega (arith, sent_beside g r w a wait fg its_row j b, few g j known l))
      go (inl e) (inr b) = let q : j ≡ RESERVED + (j - RESERVED) = omega arith in rw (e, q) (grown (j - RESERVED) (omega arith))
      go (inr d) b = omega (arith, sent_others g r w a wait fg its_row k j d (omega arith), few k j h l)
