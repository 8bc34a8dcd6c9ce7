-- What the value line of a text s is where its reader stops: `no_first`, `no_second` and `no_third` at a value that is none, and `all_three`, with `within` and
-- `fits`, by what is `Read` of a value (`value_read`). What a value line says of a text: `line_read`, with `LineRead`, and `line_broken`; and `columns_below`.
use Rattle.std.proofs.Common.{ℕ, zero, suc, ◌+◌, ◌-◌, ◌≤◌, ◌<◌, ◌≡◌, refl, sym, ap, ◌∙◌, Bool, true, false, ◌&&◌, List, [], ◌∷◌, length, get_or, Some, None, arith}
use mathlib.Core.Bool.{and-false}
use borrow.Author.Tests.{ltb-true}
use lib.Dec.{eqb, ltb}
use Rattle.laws.proofs.CaseSplits.{by_test, by_cond, not_both, clash}
use Rattle.laws.proofs.Booleans.{and_left, and_right}
use Rattle.laws.proofs.Parts.{past, from_drop, from_length}
use Rattle.text.specs.Lines.{line_end, space, has, before, after, field_count, field}
use Rattle.text.specs.Lines.{first_is}
use Rattle.text.specs.Number.{decimal, number_up_to}
use Rattle.text.specs.Fields.{each_number, are_numbers, three_of, three_numbers}
use Rattle.text.specs.declared.fields.ThreeNumbers.{ThreeNumbers}
use Rattle.text.proofs.Split.{here, gone, has_of, hasnt_of}
use Rattle.reader.proofs.ValueScan.{largest, value_number}
use Rattle.text.proofs.ThreeNumbers as Three
use Rattle.text.proofs.ThreeNumbers.{three_are, three_are_not}
use Rattle.text.specs.declared.number.LeadingNumber.{LeadingNumber}
use Rattle.reader.specs.declared.names.Columns.{Columns}
use Rattle.reader.specs.Value.{is_value}
use Rattle.reader.specs.Names.{each_named}
use Rattle.reader.specs.Reading.{three_values, begins_with_values, task_of}
use Rattle.reader.specs.Parts.{value_up_to, value_line, task_in}

-- three tests after another, one by one and from the last
three_and : (t a b c : Bool) → (t && a && b && c) ≡ (t && (a && (b && (c && true))))
three_and false a b c = refl
three_and true false b c = refl
three_and true true false c = refl
three_and true true true false = refl
three_and true true true true = refl

-- three values are three numbers
values_are_numbers : (l : List ℕ) → three_values l ≡ are_numbers 7 largest 3 l
unfolding three_values are_numbers each_number field
values_are_numbers l =
    rw (value_number (field 0 l), value_number (field 1 l), value_number (field 2 l))
    (three_and (eqb (field_count l) 3) (is_value (field 0 l)) (is_value (field 1 l)) (is_value (field 2 l)))

-- a value that was read is a number, and a byte follows it
pub record Read (b : ℕ) (s : List ℕ) (v : LeadingNumber) : Type 0 where
  pub number : number_up_to 7 largest b s ≡ Some v
  pub within : v.length < length s

pub value_read : (b : ℕ) (s : List ℕ) (v : LeadingNumber) → value_up_to b s ≡ Some v → Read b s v
unfolding value_up_to number_up_to
value_read b s v =
    let field = before b s in
    by_cond (λ r. r ≡ Some v → Read b s v) (has b s && is_value field)
    (λ t e.
    let is : v ≡ record { number = decimal field; length = length field } = cc in
    record {
      number = rw (value_number field, and_right (has b s) (is_value field) t, is);
      within = rw is (here b s (and_left (has b s) (is_value field) t)).within;
    })
    (λ t e. clash cc)

-- where there is none, there is no number, or no byte follows it
pub no_value_read :
    {A : Type 0} (b : ℕ) (s : List ℕ)
    → (number_up_to 7 largest b s ≡ None → A)
    → ((v : LeadingNumber) → number_up_to 7 largest b s ≡ Some v → length s ≤ v.length → A)
    → value_up_to b s ≡ None → A
unfolding value_up_to number_up_to
no_value_read {A} b s broken open_end =
    let field = before b s in
    by_cond (λ r. r ≡ None → A) (has b s && is_value field)
    (λ t e. clash cc)
    (λ t e.
    by_test (is_value field)
    (λ v.
    let rest : has b s ≡ false = by_test (has b s) (λ h. not_both (has b s && is_value field) (rw (h, v)) t) (λ h. h) in
    open_end (record { number = decimal field; length = length field }) (rw (value_number field, v)) (omega (arith, ap length (gone b s rest))))
    (λ v. broken (rw (value_number field, v))))

module _ (s : List ℕ) where
  no_numbers : three_numbers 7 largest s ≡ None → None ≡ value_line s
  unfolding value_line begins_with_values first_is
  no_numbers e =
      let none = three_are_not 7 largest s e in
      rw (values_are_numbers (before line_end s), none, and-false (has line_end s))

  -- three numbers, whose line is not ended where no byte is left
  module _ (t : ThreeNumbers) (e : three_numbers 7 largest s ≡ Some t) where
    not_ended : length s ≤ t.length → None ≡ value_line s
    unfolding value_line begins_with_values first_is three_of
    not_ended h =
        let are = three_are 7 largest s t e in
        rw (hasnt_of line_end s (omega (arith, ap (λ (t : ThreeNumbers). t.length) are.is)))

    is_line : t.length < length s → Some t ≡ value_line s
    unfolding value_line begins_with_values first_is three_of
    is_line h =
        let are = three_are 7 largest s t e in
        let is : t ≡ three_of (before line_end s) = are.is in
        let there : has line_end s ≡ true = has_of line_end s (omega (arith, ap (λ (t : ThreeNumbers). t.length) are.is)) in
        rw (there, values_are_numbers (before line_end s), are.are, ← is)

  pub no_first : value_up_to space s ≡ None → None ≡ value_line s
  no_first =
      no_value_read space s
      (λ e. no_numbers (sym (Three.no_first 7 largest s e)))
      (λ v e h. no_numbers (sym (Three.one_field 7 largest s v e h)))

  -- the first value, and what follows it
  module _ (a : LeadingNumber) (v : Read space s a) where
    pub no_second : value_up_to space (past s a.length) ≡ None → None ≡ value_line s
    no_second =
        no_value_read space (past s a.length)
        (λ e. no_numbers (sym (Three.no_second 7 largest s a v.number v.within e)))
        (λ w e h. no_numbers (sym (Three.two_fields 7 largest s a v.number v.within w e h)))

    -- the second
    module _ (b : LeadingNumber) (w : Read space (past s a.length) b) where
      pub within : a.length + 1 + b.length + 1 ≤ length s
      within = omega (arith, v.within, w.within, from_length s (a.length + 1))

      -- the line of these and a third number d
      abbrev line : LeadingNumber → ThreeNumbers
      line d = record { first = a.number; second = b.number; third = d.number; length = a.length + 1 + b.length + 1 + d.length }

      whole : (d : LeadingNumber) → number_up_to 7 largest line_end (past (past s a.length) b.length) ≡ Some d → three_numbers 7 largest s ≡ Some (line d)
      whole d e = sym (Three.all_three 7 largest s a v.number v.within b w.number w.within d e)

      left : length (past (past s a.length) b.length) ≡ length s - (a.length + 1 + b.length + 1)
      left = omega (arith, from_length s (a.length + 1), from_length (past s a.length) (b.length + 1))

      pub no_third : value_up_to line_end (past (past s a.length) b.length) ≡ None → None ≡ value_line s
      no_third =
          no_value_read line_end (past (past s a.length) b.length)
          (λ e. no_numbers (sym (Three.no_third 7 largest s a v.number v.within b w.number w.within e)))
          (λ d e h. not_ended (line d) (whole d e) (omega (arith, left)))

      -- the third
      module _ (d : LeadingNumber) (u : Read line_end (past (past s a.length) b.length) d) where
        pub fits : a.length + 1 + b.length + 1 + d.length < length s
        fits = omega (arith, left, within, u.within)

        pub all_three : Some (line d) ≡ value_line s
        all_three = is_line (line d) (whole d u.number) fits

-- the columns of three names are three
pub record ColumnsBelow (c : Columns) : Type 0 where
  pub period : c.period < 3
  pub budget : c.budget < 3
  pub deadline : c.deadline < 3

pub columns_below : (c : Columns) → each_named c ≡ true → ColumnsBelow c
unfolding each_named
columns_below c t =
    let p = ltb c.period 3 in
    let b = ltb c.budget 3 in
    let d = ltb c.deadline 3 in
    let two = and_left (p && b) d t in
    record {
      period = ltb-true c.period 3 (and_left p b two);
      budget = ltb-true c.budget 3 (and_right p b two);
      deadline = ltb-true c.deadline 3 (and_right (p && b) d t);
    }

-- the fields by their columns
picked :
    (l : List ℕ) (i : ℕ) → i < 3
    → get_or (decimal (field 0 l) ∷ decimal (field 1 l) ∷ decimal (field 2 l) ∷ []) i 0 ≡ decimal (field i l)
picked l zero h = refl
picked l (suc zero) h = refl
picked l (suc (suc zero)) h = refl
picked l (suc (suc (suc i))) h = absurd (omega arith)

-- a value line that was read, and its task
pub record LineRead (c : Columns) (s : List ℕ) (line : ThreeNumbers) : Type 0 where
  pub is : begins_with_values s ≡ true
  pub task_is : task_of c (before line_end s) ≡ task_in c line
  pub rest : past s line.length ≡ after line_end s
  pub within : line.length < length s

module _ (s : List ℕ) where
  pub line_broken : value_line s ≡ None → begins_with_values s ≡ false
  unfolding value_line
  line_broken = by_cond (λ r. r ≡ None → begins_with_values s ≡ false) (begins_with_values s) (λ t e. clash cc) (λ t e. t)

  pub line_read : (c : Columns) → each_named c ≡ true → (line : ThreeNumbers) → value_line s ≡ Some line → LineRead c s line
  unfolding value_line begins_with_values first_is task_of task_in three_of
  line_read c named line =
      by_cond (λ r. r ≡ Some line → LineRead c s line) (begins_with_values s)
      (λ t e.
      let l = here line_end s (and_left (has line_end s) (three_values (before line_end s)) t) in
      let b = columns_below c named in
      let at = picked (before line_end s) in
      let is : line ≡ three_of (before line_end s) = cc in
      record {
        is = t;
        task_is = rw (is, at c.period b.period, at c.budget b.budget, at c.deadline b.deadline);
        rest = from_drop s (line.length + 1) ∙ rw is l.rest;
        within = rw is l.within;
      })
      (λ t e. clash cc)
