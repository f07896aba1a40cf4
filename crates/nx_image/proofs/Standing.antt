-- The parts of an image stand apart.
use Rattle.std.proofs.Common.{◌≡◌, ◌≢◌, ℕ, zero, suc, ◌+◌, ◌*◌, ◌%◌, ◌<◌, ◌≤◌, ◌^◌, inl, inr, ⊎_elim, Bool, true, false, List, [], ◌∷◌, length, All, refl, ap, ◌∙◌, subst, arith}
use Rattle.std.specs.Prelude.{slice_index_or}
use Rattle.std.proofs.lemmas.Bool.{cases_lt}
use Rattle.nx_base.specs.Ranges.{Range, AreDisjoint}
use Rattle.nx_ram.specs.declared.prog_image.ProgImage.{ProgImage}
use Rattle.nx_space.specs.Shared.{ram_start}
use Rattle.nx_space.specs.Starts.{no_program}
use Rattle.nx_image.specs.declared.layout.Addresses.{Addresses}
use Rattle.nx_image.specs.Layout.{texts, contents, texts_at, data_at, stacks_at}
use Rattle.nx_image.specs.Image.{Contents, all_sizes, IsImage}
use Rattle.nx_image.specs.Bytes.{HasRoom}
use Rattle.nx_image.specs.Apart.{is_joint, program_in, text_of, data_of, stack_of, IsBehind, StandApart, PiecesStandApart}
use Rattle.nx_image.proofs.Sums.{up_bound, IsWhole, multiple, slot_ends}
use Rattle.nx_image.proofs.Areas.{by_joint, by_paged, program, joint_at, joint_before, joint_whole, paged_at, paged_size, joint_fits}

-- a fact of what stands at each place is one of all
same_at : (ps : List ProgImage) (k : ℕ) (x y : ProgImage) → k < length ps → slice_index_or ps k x ≡ slice_index_or ps k y
same_at [] k x y h = absurd (none k h)
  where
    none : (k : ℕ) → k < 0 → ⊥
    none k h = omega (arith, h)
same_at (p ∷ ps) zero x y h = refl
same_at (p ∷ ps) (suc k) x y h = same_at ps k x y (omega (arith, h))

all_of : (P : ProgImage → Type 0) (ps : List ProgImage) (x : ProgImage) → ((k : ℕ) → k < length ps → P (slice_index_or ps k x)) → All P ps
all_of P ps x h k d l = subst P (same_at ps k x d l) (h k l)

-- a range between two addresses
pub record IsWithin (low top : ℕ) (r : Range) : Type 0 where
  pub from : low ≤ r.low
  pub to : r.top ≤ top

apart : (low middle top : ℕ) (r s : Range) → IsWithin low middle r → IsWithin middle top s → AreDisjoint r s
apart low middle top r s a b = let x = a.to in let y = b.from in inl (omega (arith, x, y))

-- the bounds of the texts, the data and the stacks, and what lies between them
pub record Areas (i : Contents) (low middle high top : ℕ) : Type 0 where
  pub text : (k : ℕ) → k < length i.programs → IsWithin low middle (text_of i k)
  pub contents : (k : ℕ) → k < length i.programs → IsWithin middle high (data_of i k)
  pub stack : (slot : ℕ) → slot < i.layout.limits.threads → IsWithin high top (stack_of i slot)
  pub whole : (k : ℕ) → k < length i.programs → IsWhole (program_in i k).text_at (program_in i k).data_at
  pub stack_whole : (slot : ℕ) → slot < i.layout.limits.threads → (stack_of i slot).low % 16 ≡ 0
  pub tall : 2 ^ 21 ≤ high
  pub order : (middle ≤ high) × (high ≤ top)
  pub fits : top < 2 ^ 32
  pub stacks : (a b : ℕ) → b < i.layout.limits.threads → a < b → (stack_of i a).top ≤ (stack_of i b).low

module _ (i : Contents) (h : IsImage i) where
  joint_areas : is_joint i.layout.build ≡ true → Areas i (texts_at i.layout.limits) (data_at i.layout.limits (all_sizes i)) (stacks_at i.layout.limits (all_sizes i)) (ram_start + i.layout.limits.ram)
  joint_areas joint =
      let l = i.layout.limits in
      let ss = all_sizes i in
      let low = texts_at l in
      let middle = data_at l ss in
      let high = stacks_at l ss in
      let fits = joint_fits i h joint in
      let ram = h.limits.ram.high in
      let u = up_bound (64 * l.blocks) in
      let v = up_bound (texts ss) in
      let w = up_bound (contents ss) in
      let stack_at = (by_joint i.layout.build l ss joint).2 in
      let mult : l.stack % 16 ≡ 0 = let m = h.limits.stack.whole in omega (arith, m) in
      record {
        text = λ k m. let t = joint_at i h joint k m in let a = t.text_low in let b = t.text_high in record { from = a; to = omega (arith, b, v.0) };
        contents = λ k m. let t = joint_at i h joint k m in let a = t.data_low in let b = t.data_high in record { from = a; to = omega (arith, b, w.0) };
        stack = λ slot m. let e = stack_at slot in let s = slot_ends slot l.threads l.stack m in record { from = omega (arith, e); to = omega (arith, e, s, fits) };
        whole = λ k m. joint_whole i h joint k m;
        stack_whole = λ slot m. let e = stack_at slot in let s = multiple slot l.stack mult in ap (λ n. n % 16) e ∙ omega (arith, s, u.2, v.2, w.2);
        tall = omega arith;
        order = (omega arith, omega (arith, fits));
        fits = omega (arith, ram);
        stacks = λ a b m o. let e = stack_at a in let f = stack_at b in let s = slot_ends a b l.stack o in omega (arith, e, f, s);
      }

  paged_areas : is_joint i.layout.build ≡ false → Areas i 0x00010000 0x10000000 0x40000000 0x48000000
  paged_areas paged =
      let l = i.layout.limits in
      let ss = all_sizes i in
      let ram = h.limits.ram.high in
      let stack_at = (by_paged i.layout.build l ss paged).2 in
      let most = h.limits.stack.high in
      let few = h.limits.threads.high in
      record {
        text = λ k m. let t = ap (λ (x : Addresses). x.text_at) (paged_at i h paged k m) in let s = (paged_size i h paged k m).0 in record { from = omega (arith, t); to = omega (arith, t, s, ram) };
        contents = λ k m. let t = ap (λ (x : Addresses). x.data_at) (paged_at i h paged k m) in let s = (paged_size i h paged k m).1 in record { from = omega (arith, t); to = omega (arith, t, s, ram) };
        stack = λ slot m. let e = stack_at slot in record { from = omega (arith, e); to = omega (arith, e, most, few, m) };
        whole = λ k m. let t = paged_at i h paged k m in record { first = let e = ap (λ (x : Addresses). x.text_at) t in omega (arith, e); second = let e = ap (λ (x : Addresses). x.data_at) t in omega (arith, e) };
        stack_whole = λ slot m. let e = stack_at slot in omega (arith, e);
        tall = omega arith;
        order = (omega arith, omega arith);
        fits = omega arith;
        stacks = λ a b m o. let e = stack_at a in let f = stack_at b in omega (arith, e, f, o, most);
      }

  -- what both kinds of build have, and what the first has more
  pub record Joint : Type 0 where
    pub texts : (j k : ℕ) → j < length i.programs → k < length i.programs → j ≢ k → AreDisjoint (text_of i j) (text_of i k)
    pub contents : (j k : ℕ) → j < length i.programs → k < length i.programs → j ≢ k → AreDisjoint (data_of i j) (data_of i k)
    pub text : (k : ℕ) → k < length i.programs → IsBehind i (text_of i k)
    pub content : (k : ℕ) → k < length i.programs → IsBehind i (data_of i k)
    pub stack : (slot : ℕ) → slot < i.layout.limits.threads → IsBehind i (stack_of i slot)

  behind : (low top : ℕ) (r : Range) → texts_at i.layout.limits ≤ low → top ≤ ram_start + i.layout.limits.ram → IsWithin low top r → IsBehind i r
  behind low top r l t w =
      let a = w.from in
      let b = w.to in
      record { pool = inl (omega (arith, a, l)); low = omega (arith, a, l); top = omega (arith, b, t) }

  joint_apart : is_joint i.layout.build ≡ true → Joint
  joint_apart joint =
      let a = joint_areas joint in
      let o = a.order.0 in
      let p = a.order.1 in
      record {
        texts = λ j k m n ne. ⊎_elim (λ lt. inl (joint_before i h joint j k lt n).text) (λ ge. inr (joint_before i h joint k j (omega (arith, ge, ne)) m).text) (cases_lt j k);
        contents = λ j k m n ne. ⊎_elim (λ lt. inl (joint_before i h joint j k lt n).contents) (λ ge. inr (joint_before i h joint k j (omega (arith, ge, ne)) m).contents) (cases_lt j k);
        text = λ k m. behind _ _ (text_of i k) (omega arith) (omega (arith, o, p)) (a.text k m);
        content = λ k m. behind _ _ (data_of i k) (omega arith) (omega (arith, p)) (a.contents k m);
        stack = λ slot m. behind _ _ (stack_of i slot) (omega arith) (omega arith) (a.stack slot m);
      }

  apart_by : (low middle high top : ℕ) → Areas i low middle high top → (is_joint i.layout.build ≡ true → Joint) → StandApart i
  apart_by low middle high top a joint =
      let o = a.order.0 in
      let p = a.order.1 in
      let f = a.fits in
      let g = a.tall in
      record {
        text = λ k m. let t = (a.text k m).to in record { whole = (a.whole k m).first; fits = omega (arith, t, o, p, f) };
        contents = λ k m. let t = (a.contents k m).to in record { whole = (a.whole k m).second; fits = omega (arith, t, p, f) };
        stack = λ slot m. let t = (a.stack slot m).to in let s = (a.stack slot m).from in record { whole = a.stack_whole slot m; size = refl; high = omega (arith, s, g); fits = omega (arith, t, f) };
        text_data = λ j k m n. apart low middle high (text_of i j) (data_of i k) (a.text j m) (a.contents k n);
        text_stack = λ k slot m n. let t = (a.text k m).to in let s = (a.stack slot n).from in inl (omega (arith, t, s, o));
        data_stack = λ k slot m n. apart middle high top (data_of i k) (stack_of i slot) (a.contents k m) (a.stack slot n);
        stacks = λ x y m n ne. ⊎_elim (λ lt. inl (a.stacks x y n lt)) (λ ge. inr (a.stacks y x m (omega (arith, ge, ne)))) (cases_lt x y);
        joint_texts = λ j k e. (joint e).texts j k;
        joint_data = λ j k e. (joint e).contents j k;
        joint_text = λ k e. (joint e).text k;
        joint_contents = λ k e. (joint e).content k;
        joint_stack = λ slot e. (joint e).stack slot;
      }

  by_build : (b : Bool) → is_joint i.layout.build ≡ b → StandApart i
  by_build true e = apart_by _ _ _ _ (joint_areas e) joint_apart
  by_build false e = apart_by _ _ _ _ (paged_areas e) (λ q. absurd cc)

  pub stand_apart : StandApart i
  stand_apart = by_build (is_joint i.layout.build) refl

  rooms_by : (low middle high top : ℕ) → Areas i low middle high top → All HasRoom i.programs
  rooms_by low middle high top a = all_of HasRoom i.programs no_program (λ k l.
      let o = a.order.0 in
      let p = a.order.1 in
      let f = a.fits in
      let t = (a.text k l).to in
      let c = (a.contents k l).to in
      record { name = (program i h k l).name.short; text = omega (arith, t, o, p, f); init = omega (arith, c, p, f) })

  rooms_in : (b : Bool) → is_joint i.layout.build ≡ b → All HasRoom i.programs
  rooms_in true e = rooms_by _ _ _ _ (joint_areas e)
  rooms_in false e = rooms_by _ _ _ _ (paged_areas e)

  pub rooms : All HasRoom i.programs
  rooms = rooms_in (is_joint i.layout.build) refl

pub pieces_apart : PiecesStandApart
pieces_apart i h = stand_apart i h
