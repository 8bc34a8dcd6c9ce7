-- What the names line of a text s is where its reader stops, by the fields that it cuts out: `no_first`, `no_second`, `no_end`, `no_names` and `all_three`; and
-- what it says of a text: `names_read`, `names_broken`.
use Prim.Native.Nat.{ℕ, ◌+◌, ◌≤◌, ◌<◌}
use native.Mathlib.Omega.{arith}
use mathlib.Core.Path.{◌≡◌, refl, sym, ap, ◌∙◌}
use mathlib.Core.Bool.{true, false, ◌&&◌}
use mathlib.Core.List.{List}
use borrow.Author.Tests.{eq-eqb, eqb-true}
use lib.Dec.{eqb}
use lib.ListN.{length}
use Rattle.laws.proofs.CaseSplits.{by_test, by_cond, not_both, clash}
use Rattle.laws.proofs.Booleans.{and_left, and_right}
use Rattle.laws.proofs.Parts.{from, past, from_drop}
use Rattle.text.specs.Lines.{line_end, space, has, before, after, field, first_is, field_count}
use Rattle.text.proofs.Split.{here, gone, hasnt_of, cut}
use Rattle.text.proofs.FieldLaws.{count_one}
use Rattle.text.proofs.CutFields.{FirstField, cut_field, more_fields, last_field}
use Rattle.reader.specs.declared.names.Columns.{Columns}
use Rattle.std.proofs.Common.{Some, None}
use Rattle.reader.specs.declared.names.NamesLine.{NamesLine}
use Rattle.reader.specs.Names.{columns_in, columns_of, each_named, three_names, begins_with_names}
use Rattle.reader.specs.Parts.{names_line}
use Rattle.reader.proofs.Naming.{none_in}

-- the fields of the line that a text begins with are those that are cut out of the text
record ThreeFields (s : List ℕ) : Type 0 where
  first : FirstField s
  second : FirstField (after space s)
  third : has space (before line_end (after space (after space s))) ≡ false

module _ (s : List ℕ) where
  abbrev line : List ℕ
  line = before line_end s

  -- what stands after the first space, and after the second
  abbrev rest : List ℕ
  rest = after space s

  abbrev last : List ℕ
  last = after space rest

  -- the columns of the fields that are cut out
  abbrev cut_columns : Columns
  cut_columns = columns_in (before space s) (before space rest) (before line_end last)

  three_fields : field_count line ≡ 3 → ThreeFields s
  three_fields c =
      let one = more_fields s 1 c in
      let two = more_fields rest 0 (omega (arith, c, one.count)) in
      record { first = one; second = two; third = last_field (before line_end last) (omega (arith, c, one.count, two.count)) }

  module _ (t : ThreeFields s) where
    columns_are : columns_of line ≡ cut_columns
    unfolding columns_of field
    columns_are =
        rw (t.first.first, t.first.rest, t.second.first, t.second.rest, gone space (before line_end last) t.third)

    three : field_count line ≡ 3
    three = omega (arith, t.first.count, t.second.count, count_one (before line_end last) t.third)

    is_ended : has line_end s ≡ has line_end last
    is_ended = t.first.is_ended ∙ t.second.is_ended

  -- what the reader finds in a text that begins with a names line
  record Found : Type 0 where
    fields : ThreeFields s
    ended : has line_end last ≡ true
    named : each_named cut_columns ≡ true

  found : begins_with_names s ≡ true → Found
  unfolding begins_with_names first_is three_names
  found t =
      let count = eqb (field_count line) 3 in
      let each = each_named (columns_of line) in
      let i = and_left (has line_end s) (count && each) t in
      let j = and_right (has line_end s) (count && each) t in
      let f = three_fields (eqb-true (field_count line) 3 (and_left count each j)) in
      record { fields = f; ended = sym (is_ended f) ∙ i; named = rw (← columns_are f) (and_right count each j) }

  broken : (Found → ⊥) → None ≡ names_line s
  unfolding names_line
  broken n = by_test (begins_with_names s) (λ t. absurd (n (found t))) (λ t. rw t)

  -- the first field is f: a space follows it, or the text ends
  module _ (f : List ℕ) (e : f ≡ before space s) where
    pub no_first : length s ≤ length f → None ≡ names_line s
    no_first l = broken (λ n. not_both (has space s) n.fields.first.there (hasnt_of space s (rw e at l)))

    -- the second field is g
    module _ (l : length f < length s) (g : List ℕ) (e₁ : g ≡ before space (past s (length f))) where
      rest_is : past s (length f) ≡ rest
      rest_is = (cut space s (length f) (ap length e) l).rest

      pub no_second : length (past s (length f)) ≤ length g → None ≡ names_line s
      no_second k =
          broken (λ n. not_both (has space rest) n.fields.second.there (rw (← rest_is) (hasnt_of space (past s (length f)) (rw e₁ at k))))

      -- the third field is h: the byte 10 follows it, or the text ends
      module _ (k : length g < length (past s (length f))) (h : List ℕ) (e₂ : h ≡ before line_end (past (past s (length f)) (length g))) where
        abbrev left : List ℕ
        left = past (past s (length f)) (length g)

        last_is_lem : left ≡ last
        last_is_lem = (cut space (past s (length f)) (length g) (ap length e₁) k).rest ∙ ap (after space) rest_is

        pub no_end : length left ≤ length h → None ≡ names_line s
        no_end j = broken (λ n. not_both (has line_end last) n.ended (rw (← last_is_lem) (hasnt_of line_end left (rw e₂ at j))))

        module _ (j : length h < length left) where
          second_is : g ≡ before space rest
          second_is = e₁ ∙ ap (before space) rest_is

          third_is_lem : h ≡ before line_end last
          third_is_lem = e₂ ∙ ap (before line_end) last_is_lem

          columns_cut : columns_in f g h ≡ cut_columns
          columns_cut = rw (e, second_is, third_is_lem)

          pub no_names : each_named (columns_in f g h) ≡ false → None ≡ names_line s
          no_names x = broken (λ n. not_both (each_named cut_columns) n.named (rw (← columns_cut) x))

          module _ (c : Columns) (q : c ≡ columns_in f g h) (x : each_named c ≡ true) where
            three_cut : ThreeFields s
            unfolding has
            three_cut =
                let t : each_named (columns_in f g h) ≡ true = rw q at x in
                let ends = none_in f g h t line_end refl refl refl in
                let spaces = none_in f g h t space refl refl refl in
                record {
                  first = cut_field s (cut space s (length f) (ap length e) l).is (rw (← e) ends.first);
                  second =
                      cut_field rest (rw (← rest_is) (cut space (past s (length f)) (length g) (ap length e₁) k).is)
                      (rw (← second_is) ends.second);
                  third = rw (← third_is_lem) spaces.third;
                }

            ended_cut : has line_end s ≡ true
            ended_cut = is_ended three_cut ∙ rw (← last_is_lem) (cut line_end left (length h) (ap length e₂) j).is

            is : begins_with_names s ≡ true
            unfolding begins_with_names first_is three_names
            is = rw (ended_cut, eq-eqb (field_count line) 3 (three three_cut), columns_are three_cut, ← columns_cut, ← q) x

            size : length line + 1 ≡ length f + 1 + length g + 1 + length h + 1
            size =
                omega (
                  arith,
                  three_cut.first.size,
                  three_cut.second.size,
                  ap length e,
                  ap length second_is,
                  ap length third_is_lem,
                )

            pub all_three : Some (record { columns = c; length = length f + 1 + length g + 1 + length h + 1 }) ≡ names_line s
            unfolding names_line
            all_three = rw (is, columns_are three_cut, ← columns_cut, ← q, size)

-- a names line that was read, and none
pub record NamesRead (s : List ℕ) (line : NamesLine) : Type 0 where
  pub is : begins_with_names s ≡ true
  pub columns : line.columns ≡ columns_of (before line_end s)
  pub within : line.length ≤ length s
  pub rest : from s line.length ≡ after line_end s

ended : (s : List ℕ) → begins_with_names s ≡ true → has line_end s ≡ true
unfolding begins_with_names first_is
ended s t = and_left (has line_end s) (three_names (before line_end s)) t

pub names_read : (s : List ℕ) (line : NamesLine) → names_line s ≡ Some line → NamesRead s line
unfolding names_line
names_read s line =
    by_cond (λ r. r ≡ Some line → NamesRead s line) (begins_with_names s)
    (λ t e.
    let c : line.length ≡ length (before line_end s) + 1 = cc in
    let l = here line_end s (ended s t) in
    record { is = t; columns = cc; within = omega (arith, l.within); rest = from_drop s line.length ∙ rw c l.rest })
    (λ t e. clash cc)

pub names_broken : (s : List ℕ) → names_line s ≡ None → begins_with_names s ≡ false
unfolding names_line
names_broken s = by_cond (λ r. r ≡ None → begins_with_names s ≡ false) (begins_with_names s) (λ t e. clash cc) (λ t e. t)
