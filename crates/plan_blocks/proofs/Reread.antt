-- The file of a legal plan is accepted, and holds that plan. Assumes nothing.
use Rattle.std.proofs.Common.{◌≡◌, ℕ, zero, suc, ◌+◌, ◌-◌, ◌*◌, ◌/◌, ◌%◌, ◌<◌, ◌≤◌, Bool, true, false, cond, eqb, ltb, leb, List, length, get_or, sym, refl, ap, ◌∙◌, ap₂, ⊎_elim, mod-lt, arith, ext_get_or, ltb-false, ltb-true, lt-ltb, eq-eqb, eqb-true, leb-true}
use borrow.Author.Tests.{eqb-false}
use Rattle.lists.specs.Sum.{sum}
use Rattle.lists.specs.Fill.{table}
use Rattle.lists.proofs.Orders.{clash}
use Rattle.lists.proofs.Sums.{sum_more}
use Rattle.lists.proofs.Totals.{sum-ext, sum-holds}
use Rattle.lists.proofs.Alls.{all-every, from-every}
use Rattle.lists.proofs.Tables.{length-table, table_at}
use Rattle.plan_blocks.specs.Word.{wrap, word, byte_of, bytes}
use Rattle.plan_blocks.specs.Block.{opening, sum_at, checks, laid_out, check_word, blocks_for, blocks_of, held_by, header_count, kind_at, count_at}
use Rattle.plan_blocks.specs.Plan.{Plan, header_in, Legal, unfit_value}
use Rattle.plan_blocks.specs.Encode.{header_word, vertex_word, arc_word, record_word, body_word, file_word, encode}
use Rattle.plan_blocks.specs.Decode.{in_block, blocks_in, kind_of, vertex_at, arc_at, label_at, degree_at, later_laid, labelled, header_at, plan_of, file_number}
use Rattle.plan_blocks.proofs.Bits.{choice-above}
use Rattle.plan_blocks.proofs.WordLaws.{byte_in, word_bytes, length-bytes}
use Rattle.plan_blocks.proofs.Places.{sum_fits, second-byte, position-fits, held_in, eleven-records, three-records, header-least, header-most, count_most, kind-most, file-body, file-check, body-rest, vertex-block, arc-block, vertex-record, arc-record, each_word, header-words, vertex-words, arc-words, by_kind}
use Rattle.plan_blocks.proofs.Accepts.{Accepted, InRange, in-range, accepted-number}

-- the choices are 0 to 3
choice-most : (choice value : ℕ) → unfit_value choice value ≡ false → choice < 4
choice-most choice value h = go (ltb 3 choice) refl
  where
    go : (t : Bool) → ltb 3 choice ≡ t → choice < 4
    go true e = clash (unfit_value choice value) (choice-above choice value (ltb-true 3 choice e)) h
    go false e = let m = ltb-false 3 choice e in omega arith

-- a sum and the word that brings it to what it must be
check-brings : (s must : ℕ) → must < wrap → (s + (must + (wrap - s % wrap)) % wrap) % wrap ≡ must
check-brings s must l = omega arith

-- a block is laid out where its words say so
laid_out-holds : (file kind count : ℕ) (w : ℕ → ℕ) → w 0 ≡ opening file kind count → ((j : ℕ) → 2 * count < j → j < 127 → w j ≡ 0) → laid_out file kind count w ≡ true
unfolding laid_out
laid_out-holds file kind count w e h =
    rw (eq-eqb (w 0) (opening file kind count) e)
    (from-every (1 + 2 * count) 127 (λ j. eqb (w j) 0) (λ j l m. eq-eqb (w j) 0 (h j (omega arith) m)))

module _ (p : Plan) (g : Legal p) (file : ℕ) (known : file ≤ 1) where
  inside : InRange p.n p.a p.k
  inside = in-range p.n p.a p.k g.ranged

  degree-most : (v : ℕ) → v < p.n → get_or p.degrees v 0 ≤ p.a
  degree-most v l = let s = sum-holds p.n v (λ u. get_or p.degrees u 0) l in let e = g.degrees_sum in omega arith

  -- every word fits
  header-fits : (r : ℕ) → r < 22 → header_word (header_in p) r < wrap
  unfolding header_word
  header-fits zero l = let i = inside in omega arith
  header-fits (suc zero) l = let i = inside in omega arith
  header-fits (suc (suc zero)) l = let i = inside in omega arith
  header-fits (suc (suc (suc zero))) l = let c = choice-most p.choice p.value g.fit in omega arith
  header-fits (suc (suc (suc (suc zero)))) l = mod-lt p.value (omega arith)
  header-fits (suc (suc (suc (suc (suc zero))))) l = let e = g.eight in omega arith
  header-fits (suc (suc (suc (suc (suc (suc t)))))) l = g.each_fits t (omega arith)

  vertex-fits : (r : ℕ) → r / 2 < p.n → vertex_word p r < wrap
  unfolding vertex_word
  vertex-fits r l = go (eqb (r % 2) 0) (g.weights_fit (r / 2) l) (g.labels_fit (r / 2) l) (degree-most (r / 2) l)
    where
      go : (t : Bool) → get_or p.weights (r / 2) 0 < wrap → get_or p.labels (r / 2) 0 < p.k → get_or p.degrees (r / 2) 0 ≤ p.a → cond t (get_or p.weights (r / 2) 0) (get_or p.labels (r / 2) 0 + 65536 * get_or p.degrees (r / 2) 0) < wrap
      go true w x y = w
      go false w x y = let i = inside in omega arith

  arc-fits : (r : ℕ) → r / 2 < p.a → arc_word p r < wrap
  unfolding arc_word
  arc-fits r l = go (eqb (r % 2) 0) (g.neighbours_fit (r / 2) l) (g.arc_weights_fit (r / 2) l)
    where
      go : (t : Bool) → get_or p.neighbours (r / 2) 0 < wrap → get_or p.arc_weights (r / 2) 0 < wrap → cond t (get_or p.neighbours (r / 2) 0) (get_or p.arc_weights (r / 2) 0) < wrap
      go true x y = x
      go false x y = y

  first_fits : (r : ℕ) → r < 2 * count_at p.choice p.n p.a 0 → record_word p 0 r < wrap
  unfolding count_at record_word
  first_fits r l = header-fits r (let m = header-most p.choice in omega arith)

  record-fits : (b r : ℕ) → b < blocks_of p.n p.a → r < 2 * count_at p.choice p.n p.a b → record_word p b r < wrap
  record-fits zero r l m = first_fits r m
  record-fits (suc b) r l m =
      ⊎_elim
      (λ w. vertices w.0 w.1 w.2 m)
      (λ w. arcs w.0 w.1 w.2 m)
      (by_kind p.n p.a (suc b) (omega arith) l)
    where
      vertices : (i : ℕ) → i < blocks_for p.n → suc b ≡ 1 + i → r < 2 * count_at p.choice p.n p.a (suc b) → record_word p (suc b) r < wrap
      vertices i k e m =
          let c : count_at p.choice p.n p.a (suc b) ≡ held_by p.n i = ap (count_at p.choice p.n p.a) e ∙ vertex-block p.choice p.n p.a i k in
          let q = held_in p.n i (r / 2) (omega arith) in
          let x : record_word p (suc b) r ≡ vertex_word p (126 * i + r) = ap (λ (x : ℕ). record_word p x r) e ∙ vertex-record p i r k in
          rw x (vertex-fits (126 * i + r) (omega arith))

      arcs : (i : ℕ) → i < blocks_for p.a → suc b ≡ 1 + blocks_for p.n + i → r < 2 * count_at p.choice p.n p.a (suc b) → record_word p (suc b) r < wrap
      arcs i k e m =
          let c : count_at p.choice p.n p.a (suc b) ≡ held_by p.a i = ap (count_at p.choice p.n p.a) e ∙ arc-block p.choice p.n p.a i in
          let q = held_in p.a i (r / 2) (omega arith) in
          let x : record_word p (suc b) r ≡ arc_word p (126 * i + r) = ap (λ (x : ℕ). record_word p x r) e ∙ arc-record p i r in
          rw x (arc-fits (126 * i + r) (omega arith))

  body-fits : (b j : ℕ) → b < blocks_of p.n p.a → body_word file p b j < wrap
  unfolding body_word
  body-fits b j l = go (eqb j 0) refl (leb j (2 * count_at p.choice p.n p.a b)) refl
    where
      go : (s : Bool) → eqb j 0 ≡ s → (t : Bool) → leb j (2 * count_at p.choice p.n p.a b) ≡ t → cond s (opening file (kind_at p.n b) (count_at p.choice p.n p.a b)) (cond t (record_word p b (j - 1)) 0) < wrap
      go true e t f = let c = count_most p.choice p.n p.a b in let k = kind-most p.n b in omega arith
      go false e true f =
          let z = eqb-false j 0 e in
          let m = leb-true j (2 * count_at p.choice p.n p.a b) f in
          record-fits b (j - 1) l (omega (arith, z))
      go false e false f = omega arith

  file-fits : (w : ℕ) → w < 128 * blocks_of p.n p.a → file_word file p w < wrap
  unfolding file_word check_word
  file-fits w l = go (eqb (w % 128) 127)
    where
      go : (t : Bool) → cond t ((sum_at file (w / 128) + (wrap - sum 127 (body_word file p (w / 128)) % wrap)) % wrap) (body_word file p (w / 128) (w % 128)) < wrap
      go true = mod-lt (sum_at file (w / 128) + (wrap - sum 127 (body_word file p (w / 128)) % wrap)) (omega arith)
      go false = body-fits (w / 128) (w % 128) (omega arith)

  -- the words of the file
  word-is : (w : ℕ) → w < 128 * blocks_of p.n p.a → word (encode file p) w ≡ file_word file p w
  unfolding encode
  word-is w l = word_bytes (128 * blocks_of p.n p.a) (file_word file p) w l (file-fits w l)

  pub length-is : length (encode file p) ≡ 512 * blocks_of p.n p.a
  unfolding encode
  length-is = let e = length-bytes (128 * blocks_of p.n p.a) (file_word file p) in omega arith

  body_is : (b j : ℕ) → b < blocks_of p.n p.a → j < 127 → in_block (encode file p) b j ≡ body_word file p b j
  body_is b j l m = word-is (128 * b + j) (omega arith) ∙ file-body file p b j m

  header_is : (r : ℕ) → r < 2 * header_count p.choice → word (encode file p) (1 + r) ≡ header_word (header_in p) r
  unfolding blocks_of
  header_is r l = word-is (1 + r) (let m = header-most p.choice in omega arith) ∙ header-words file p r l

  -- those of the first three records stand in every header
  six-is : (r : ℕ) → r < 6 → word (encode file p) (1 + r) ≡ header_word (header_in p) r
  six-is r l = header_is r (let m = header-least p.choice in omega arith)

  -- the two words of a record
  vertex-is : (v t : ℕ) → v < p.n → t < 2 → word (encode file p) (vertex_at v + t) ≡ vertex_word p (2 * v + t)
  unfolding blocks_of blocks_for
  vertex-is v t l m = word-is (vertex_at v + t) (omega arith) ∙ vertex-words file p t m v l

  arc-is : (e t : ℕ) → e < p.a → t < 2 → word (encode file p) (arc_at p.n e + t) ≡ arc_word p (2 * e + t)
  unfolding blocks_of blocks_for
  arc-is e t l m = word-is (arc_at p.n e + t) (omega arith) ∙ arc-words file p t m e l

  weight_is : (v : ℕ) → v < p.n → word (encode file p) (vertex_at v) ≡ get_or p.weights v 0
  unfolding vertex_word
  weight_is v l =
      let z : vertex_at v + 0 ≡ vertex_at v = omega arith in
      let q : (2 * v + 0) % 2 ≡ 0 = omega arith in
      let r : (2 * v + 0) / 2 ≡ v = omega arith in
      ap (word (encode file p)) (sym z) ∙ vertex-is v 0 l (omega arith) ∙ simp (q, r)

  second_is : (v : ℕ) → v < p.n → word (encode file p) (vertex_at v + 1) ≡ get_or p.labels v 0 + 65536 * get_or p.degrees v 0
  unfolding vertex_word
  second_is v l =
      let q : (2 * v + 1) % 2 ≡ 1 = omega arith in
      let r : (2 * v + 1) / 2 ≡ v = omega arith in
      vertex-is v 1 l (omega arith) ∙ simp (q, r)

  label_is : (v : ℕ) → v < p.n → label_at (encode file p) v ≡ get_or p.labels v 0
  label_is v l = let e = second_is v l in let i = inside in let f = g.labels_fit v l in omega arith

  degree-is : (v : ℕ) → v < p.n → degree_at (encode file p) v ≡ get_or p.degrees v 0
  degree-is v l = let e = second_is v l in let i = inside in let f = g.labels_fit v l in omega arith

  neighbour-is : (e : ℕ) → e < p.a → word (encode file p) (arc_at p.n e) ≡ get_or p.neighbours e 0
  unfolding arc_word
  neighbour-is e l =
      let z : arc_at p.n e + 0 ≡ arc_at p.n e = omega arith in
      let q : (2 * e + 0) % 2 ≡ 0 = omega arith in
      let r : (2 * e + 0) / 2 ≡ e = omega arith in
      ap (word (encode file p)) (sym z) ∙ arc-is e 0 l (omega arith) ∙ simp (q, r)

  arc-weight-is : (e : ℕ) → e < p.a → word (encode file p) (arc_at p.n e + 1) ≡ get_or p.arc_weights e 0
  unfolding arc_word
  arc-weight-is e l =
      let q : (2 * e + 1) % 2 ≡ 1 = omega arith in
      let r : (2 * e + 1) / 2 ≡ e = omega arith in
      arc-is e 1 l (omega arith) ∙ simp (q, r)

  -- a table of what stands in a list is that list
  listed : (m : ℕ) (f : ℕ → ℕ) (xs : List ℕ) → length xs ≡ m → ((i : ℕ) → i < m → f i ≡ get_or xs i 0) → table m f ≡ xs
  listed m f xs e h =
      ext_get_or 0 (table m f) xs (length-table m f ∙ sym e) (λ i l. (let k = length-table m f in let j : i < m = omega arith in table_at m i 0 f j ∙ h i j))

  n-is : word (encode file p) 1 ≡ p.n
  unfolding header_word
  n-is = six-is 0 (omega arith)

  a-is : word (encode file p) 2 ≡ p.a
  unfolding header_word
  a-is = six-is 1 (omega arith)

  k-is : word (encode file p) 3 ≡ p.k
  unfolding header_word
  k-is = six-is 2 (omega arith)

  choice-is : word (encode file p) 4 ≡ p.choice
  unfolding header_word
  choice-is = six-is 3 (omega arith)

  value-is : word (encode file p) 5 + wrap * word (encode file p) 6 ≡ p.value
  unfolding header_word
  value-is = let x = six-is 4 (omega arith) in let y = six-is 5 (omega arith) in omega arith

  -- the number of each part: a record's, or an unused place's
  each-is : (t : ℕ) → t < 16 → word (encode file p) (7 + t) ≡ get_or p.each t 0
  unfolding count_at blocks_of
  each-is t l = go (eqb p.choice 3) refl
    where
      go : (b : Bool) → eqb p.choice 3 ≡ b → word (encode file p) (7 + t) ≡ get_or p.each t 0
      go true e =
          let z : 7 + t ≡ 1 + (6 + t) = omega arith in
          ap (word (encode file p)) z ∙ header_is (6 + t) (let c = eleven-records p.choice (eqb-true p.choice 3 e) in omega arith) ∙ each_word (header_in p) t
      go false e =
          let other = eqb-false p.choice 3 e in
          let z : 7 + t ≡ 128 * 0 + (7 + t) = omega arith in
          ap (word (encode file p)) z
          ∙ body_is 0 (7 + t) (omega arith) (omega arith)
          ∙ body-rest file p 0 (7 + t) (let c = three-records p.choice other in omega arith)
          ∙ sym (g.each_used other t l)

  whole-header : header_at (encode file p) ≡ header_in p
  whole-header =
      rw (n-is, a-is, k-is, choice-is, value-is, listed 16 (λ t. word (encode file p) (7 + t)) p.each g.sixteen each-is) refl

  -- the file's kind is the second byte of its first word
  pub kind-is : kind_of (encode file p) ≡ file
  unfolding encode bytes body_word kind_at count_at blocks_of
  kind-is =
      table_at (4 * (128 * blocks_of p.n p.a)) 1 0 (byte_in (file_word file p)) (omega arith)
      ∙ ap (λ (x : ℕ). byte_of x 1) (file-body file p 0 0 (omega arith))
      ∙ second-byte file 1 (header_count p.choice) (omega arith) (omega arith)

  checks-is : (b : ℕ) → b < blocks_of p.n p.a → checks (sum_at file b) (in_block (encode file p) b) ≡ true
  unfolding checks check_word
  checks-is b l =
      let e : sum 127 (in_block (encode file p) b) ≡ sum 127 (body_word file p b) = sum-ext 127 (in_block (encode file p) b) (body_word file p b) (λ j m. body_is b j l m) in
      let f = word-is (128 * b + 127) (omega arith) ∙ file-check file p b in
      let d : sum 128 (in_block (encode file p) b) ≡ sum 127 (body_word file p b) + (sum_at file b + (wrap - sum 127 (body_word file p b) % wrap)) % wrap = sum_more 127 (in_block (encode file p) b) ∙ ap₂ ◌+◌ e f in
      eq-eqb (sum 128 (in_block (encode file p) b) % wrap) (sum_at file b) (ap (λ (x : ℕ). x % wrap) d ∙ check-brings (sum 127 (body_word file p b)) (sum_at file b) (sum_fits file b (position-fits p.n p.a b inside.few inside.few_arcs l)))

  laid-is : (b : ℕ) → b < blocks_of p.n p.a → laid_out file (kind_at p.n b) (count_at p.choice p.n p.a b) (in_block (encode file p) b) ≡ true
  unfolding body_word
  laid-is b l =
      laid_out-holds file (kind_at p.n b) (count_at p.choice p.n p.a b) (in_block (encode file p) b)
      (body_is b 0 l (omega arith))
      (λ j m k. body_is b j l k ∙ body-rest file p b j m)

  first-laid : laid_out file 1 (header_count p.choice) (in_block (encode file p) 0) ≡ true
  unfolding kind_at count_at blocks_of
  first-laid = laid-is 0 (omega arith)

  accepted-is : Accepted (encode file p) file (header_in p)
  unfolding later_laid labelled
  accepted-is =
      record {
        known = known;
        sized = length-is;
        checked = all-every (blocks_in (encode file p)) (λ b. checks (sum_at file b) (in_block (encode file p) b)) (λ b l. checks-is b (let e = length-is in omega arith));
        header = first-laid;
        ranged = g.ranged;
        fit = g.fit;
        later =
            from-every 1 (blocks_in (encode file p)) (λ b. laid_out file (kind_at p.n b) (count_at p.choice p.n p.a b) (in_block (encode file p) b)) (λ b z l. laid-is b (let e = length-is in omega arith));
        rows = sum-ext p.n (degree_at (encode file p)) (λ v. get_or p.degrees v 0) degree-is ∙ g.degrees_sum;
        named = all-every p.n (λ v. ltb (label_at (encode file p) v) p.k) (λ v l. lt-ltb (label_at (encode file p) v) p.k (rw (label_is v l) (g.labels_fit v l)));
      }

  pub same_number : file_number (encode file p) ≡ 0
  same_number = accepted-number (encode file p) (rw (kind-is, whole-header) accepted-is)

  pub same-plan : plan_of (encode file p) ≡ p
  unfolding plan_of
  same-plan =
      rw (n-is, a-is, k-is, choice-is, value-is)
      (λ i. record {
        n = p.n;
        a = p.a;
        k = p.k;
        choice = p.choice;
        value = p.value;
        each = listed 16 (λ t. word (encode file p) (7 + t)) p.each g.sixteen each-is i;
        weights = listed p.n (λ v. word (encode file p) (vertex_at v)) p.weights g.weighed weight_is i;
        labels = listed p.n (label_at (encode file p)) p.labels g.labelled label_is i;
        degrees = listed p.n (degree_at (encode file p)) p.degrees g.degreed degree-is i;
        neighbours = listed p.a (λ e. word (encode file p) (arc_at p.n e)) p.neighbours g.joined neighbour-is i;
        arc_weights = listed p.a (λ e. word (encode file p) (arc_at p.n e + 1)) p.arc_weights g.paired arc-weight-is i;
      })
