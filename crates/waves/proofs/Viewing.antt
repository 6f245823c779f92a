-- A dump of samples, read by the viewer: its events, and what they show at every tick. Assumes nothing.
use Rattle.std.proofs.Common.{◌&&◌, ◌∷◌, ◌++◌}
use mathlib.Core.Path.{◌≡◌, refl, sym, ap, ◌∙◌, subst}
use mathlib.Core.Bool.{true≢false}
use mathlib.Core.List.{append_assoc}
use Prim.Native.Nat.{◌≤◌, ◌<◌}
use native.Mathlib.Omega.{arith}
use borrow.Author.Tests.{eqb-true, lt-ltb, leb-false, lt-leb, le-leb}
use lib.Dec.{eqb, leb}
use Rattle.sets.proofs.Laws.{by-test}
use mathlib.Core.Bool.{not}
use Rattle.waves.specs.Types.{Bool, true, false, cond, List, [], ℕ, Shown}
use Rattle.waves.specs.Dump.{Sample, ascii, line, header, wires, wire, all, if_new, changed, mark, same, change, changes, dump}
use Rattle.waves.specs.Viewer.{blank, gathered, parted, words, alike, Number, NoNumber, Is, number_from, Declares, Outside, declared, Event, At, Put, Events, Reads, with_event, events, Read, Dump, with_variables, behind, read, value_at, named, shows, rise, valued, last_of, other, fresh}
use Rattle.waves.specs.Readable.{Fits, Later, shown_at}
use Rattle.waves.specs.Samples.{shown_of, samples_of, values_at}
use Rattle.waves.specs.Viewed.{variables, Views, DumpViews, AcceptedViews}
use Rattle.waves.proofs.Readable.{samples_tell}
use Rattle.waves.proofs.Reading.{solid, word_read, told, mark_read, wires_read, wire_read}

-- ---- the events of a dump

abbrev put_if : ℕ → ℕ → ℕ → List Event → List Event
put_if code old new es = cond (eqb old new) es (Put (code ∷ []) new ∷ es)

abbrev changed_events : Shown → Shown → List Event → List Event
changed_events v w es =
    put_if 97 v.processor w.processor (put_if 98 v.copyin w.copyin (put_if 99 v.copyout w.copyout (put_if 100 v.half w.half es)))

abbrev change_events : Shown → Sample → List Event → List Event
change_events v s es = cond (same v s.shown) es (At s.time ∷ changed_events v s.shown es)

unfoldable changes_events : Shown → List Sample → List Event
changes_events v [] = []
changes_events v (s ∷ ss) = change_events v s (changes_events s.shown ss)

abbrev all_events : Shown → List Event → List Event
all_events w es = Put (97 ∷ []) w.processor ∷ Put (98 ∷ []) w.copyin ∷ Put (99 ∷ []) w.copyout ∷ Put (100 ∷ []) w.half ∷ es

-- ---- read

event_first : {x : Events} {es : List Event} (e : Event) → x ≡ Reads es → with_event e x ≡ Reads (e ∷ es)
event_first e h = ap (with_event e) h

module _ (code old new : ℕ) (r : List ℕ) {es : List Event} (l : 48 ≤ code) (h : told r ≡ Reads es) where
  wires_if : new < 256 → told (if_new old new (wires code new) ++ r) ≡ Reads (put_if code old new es)
  wires_if f =
      by-test (eqb old new)
      (λ e. subst (λ (b : Bool). told (cond b [] (wires code new) ++ r) ≡ Reads (cond b es (Put (code ∷ []) new ∷ es))) (sym e) h)
      (λ e. subst (λ (b : Bool). told (cond b [] (wires code new) ++ r) ≡ Reads (cond b es (Put (code ∷ []) new ∷ es))) (sym e) (wires_read code new r f l ∙ event_first (Put (code ∷ []) new) h))

  wire_if : new < 2 → told (if_new old new (wire code new) ++ r) ≡ Reads (put_if code old new es)
  wire_if f =
      by-test (eqb old new)
      (λ e. subst (λ (b : Bool). told (cond b [] (wire code new) ++ r) ≡ Reads (cond b es (Put (code ∷ []) new ∷ es))) (sym e) h)
      (λ e. subst (λ (b : Bool). told (cond b [] (wire code new) ++ r) ≡ Reads (cond b es (Put (code ∷ []) new ∷ es))) (sym e) (wire_read code new r f l ∙ event_first (Put (code ∷ []) new) h))

-- four parts and the rest, one behind the other
four : (a b c d r : List ℕ) → (a ++ (b ++ (c ++ d))) ++ r ≡ a ++ (b ++ (c ++ (d ++ r)))
four a b c d r =
    append_assoc a (b ++ (c ++ d)) r
    ∙ ap (λ (x : List ℕ). a ++ x) (append_assoc b (c ++ d) r ∙ ap (λ (x : List ℕ). b ++ x) (append_assoc c d r))

less : {n : ℕ} → n ≤ 1 → n < 2
less l = omega (arith, l)

changed_read : (v w : Shown) (r : List ℕ) {es : List Event} → Fits w → told r ≡ Reads es → told (changed v w ++ r) ≡ Reads (changed_events v w es)
unfolding changed
changed_read v w r f h =
    ap told (four (if_new v.processor w.processor (wires 97 w.processor)) (if_new v.copyin w.copyin (wires 98 w.copyin)) (if_new v.copyout w.copyout (wires 99 w.copyout)) (if_new v.half w.half (wire 100 w.half)) r)
    ∙ wires_if 97 v.processor w.processor _ (omega arith)
    (wires_if 98 v.copyin w.copyin _ (omega arith)
    (wires_if 99 v.copyout w.copyout _ (omega arith)
    (wire_if 100 v.half w.half r (omega arith) h (less f.half_fits)) f.copyout_fits) f.copyin_fits) f.processor_fits

all_read : (w : Shown) (r : List ℕ) {es : List Event} → Fits w → told r ≡ Reads es → told (all w ++ r) ≡ Reads (all_events w es)
unfolding all
all_read w r f h =
    let d : told (wire 100 w.half ++ r) ≡ Reads _ = wire_read 100 w.half r (less f.half_fits) (omega arith) ∙ event_first (Put (100 ∷ []) w.half) h in
    let c : told (wires 99 w.copyout ++ (wire 100 w.half ++ r)) ≡ Reads _ = wires_read 99 w.copyout _ f.copyout_fits (omega arith) ∙ event_first (Put (99 ∷ []) w.copyout) d in
    let b : told (wires 98 w.copyin ++ (wires 99 w.copyout ++ (wire 100 w.half ++ r))) ≡ Reads _ = wires_read 98 w.copyin _ f.copyin_fits (omega arith) ∙ event_first (Put (98 ∷ []) w.copyin) c in
    ap told (four (wires 97 w.processor) (wires 98 w.copyin) (wires 99 w.copyout) (wire 100 w.half) r)
    ∙ wires_read 97 w.processor _ f.processor_fits (omega arith) ∙ event_first (Put (97 ∷ []) w.processor) b

change_read : (v : Shown) (s : Sample) (r : List ℕ) {es : List Event} → Fits s.shown → told r ≡ Reads es → told (change v s ++ r) ≡ Reads (change_events v s es)
unfolding change
change_read v s r {es} f h =
    by-test (same v s.shown)
    (λ e. subst (λ (b : Bool). told (cond b [] (mark s.time ++ changed v s.shown) ++ r) ≡ Reads (cond b es (At s.time ∷ changed_events v s.shown es))) (sym e) h)
    (λ e. subst (λ (b : Bool). told (cond b [] (mark s.time ++ changed v s.shown) ++ r) ≡ Reads (cond b es (At s.time ∷ changed_events v s.shown es))) (sym e)
    (ap told (append_assoc (mark s.time) (changed v s.shown) r) ∙ mark_read s.time (changed v s.shown ++ r)
    ∙ event_first (At s.time) (changed_read v s.shown r f h)))

none_read : told [] ≡ Reads []
unfolding events words gathered parted
none_read = refl

changes_read : (v : Shown) (t : ℕ) (ss : List Sample) → Later t ss → told (changes v ss) ≡ Reads (changes_events v ss)
unfolding changes changes_events Later
changes_read v t [] f = none_read
changes_read v t (s ∷ ss) f = change_read v s (changes s.shown ss) f.1 (changes_read s.shown s.time ss f.2)

-- ---- the declarations

-- a word, with what parts it from the next
pub record Spaced : Type 0 where
  pub first : ℕ
  pub rest : List ℕ
  pub gap : ℕ

unfoldable spaced : List Spaced → List ℕ → List ℕ
spaced [] r = r
spaced (p ∷ ps) r = (p.first ∷ p.rest) ++ (p.gap ∷ spaced ps r)

unfoldable names : List Spaced → List (List ℕ) → List (List ℕ)
names [] ws = ws
names (p ∷ ps) ws = (p.first ∷ p.rest) ∷ names ps ws

unfoldable proper : List Spaced → Bool
proper [] = true
proper (p ∷ ps) = (solid (p.first ∷ p.rest) && blank p.gap) && proper ps

both : (a b : Bool) → (a && b) ≡ true → (a ≡ true) × (b ≡ true)
both true b h = (refl, h)
both false b h = absurd (true≢false (sym h))

words_spaced : (ps : List Spaced) (r : List ℕ) → proper ps ≡ true → words (spaced ps r) ≡ names ps (words r)
unfolding spaced names proper
words_spaced [] r h = refl
words_spaced (p ∷ ps) r h =
    let x = both (solid (p.first ∷ p.rest) && blank p.gap) (proper ps) h in
    let y = both (solid (p.first ∷ p.rest)) (blank p.gap) x.0 in
    word_read p.first p.rest p.gap (spaced ps r) y.0 y.1 ∙ ap (λ (ws : List (List ℕ)). (p.first ∷ p.rest) ∷ ws) (words_spaced ps r x.1)

abbrev dollar : List ℕ → Spaced
dollar w = record { first = 36; rest = w; gap = 32 }

abbrev end : Spaced
end = record { first = 36; rest = ascii "end"; gap = 10 }

abbrev plain : ℕ → List ℕ → Spaced
plain c w = record { first = c; rest = w; gap = 32 }

abbrev header_words : List Spaced
header_words =
    dollar (ascii "timescale") ∷ plain 49 [] ∷ plain 117 (ascii "s") ∷ end
    ∷ dollar (ascii "scope") ∷ plain 109 (ascii "odule") ∷ plain 103 (ascii "ateway") ∷ end
    ∷ dollar (ascii "var") ∷ plain 119 (ascii "ire") ∷ plain 56 [] ∷ plain 97 [] ∷ plain 112 (ascii "rocessor") ∷ end
    ∷ dollar (ascii "var") ∷ plain 119 (ascii "ire") ∷ plain 56 [] ∷ plain 98 [] ∷ plain 99 (ascii "opy_in") ∷ end
    ∷ dollar (ascii "var") ∷ plain 119 (ascii "ire") ∷ plain 56 [] ∷ plain 99 [] ∷ plain 99 (ascii "opy_out") ∷ end
    ∷ dollar (ascii "var") ∷ plain 119 (ascii "ire") ∷ plain 49 [] ∷ plain 100 [] ∷ plain 104 (ascii "alf") ∷ end
    ∷ dollar (ascii "upscope") ∷ end
    ∷ dollar (ascii "enddefinitions") ∷ end
    ∷ []

header_spaced : (r : List ℕ) → header ++ r ≡ spaced header_words r
unfolding header line ascii spaced
header_spaced r = refl

header_proper : proper header_words ≡ true
unfolding proper solid ascii
header_proper = refl

header_declares : (ws : List (List ℕ)) → declared Outside (names header_words ws) ≡ Declares variables ws
unfolding declared names alike ascii number_from
header_declares ws = refl

header_read : (r : List ℕ) {es : List Event} → told r ≡ Reads es → read (header ++ r) ≡ Dump variables es
unfolding read
header_read r h =
    ap (λ (s : List ℕ). behind (declared Outside (words s))) (header_spaced r)
    ∙ ap (λ (ws : List (List ℕ)). behind (declared Outside ws)) (words_spaced header_words r header_proper)
    ∙ ap behind (header_declares (words r))
    ∙ ap (with_variables variables) h

dump_read : (v : Shown) (ss : List Sample) → Fits v → Later 0 ss
    → read (dump (record { time = 0; shown = v } ∷ ss)) ≡ Dump variables (At 0 ∷ all_events v (changes_events v ss))
unfolding dump
dump_read v ss f g =
    let r : told (mark 0 ++ (all v ++ changes v ss)) ≡ Reads (At 0 ∷ all_events v (changes_events v ss)) =
    mark_read 0 (all v ++ changes v ss) ∙ event_first (At 0) (all_read v (changes v ss) f (changes_read v 0 ss g)) in
    header_read ((mark 0 ++ all v) ++ changes v ss) (ap told (append_assoc (mark 0) (all v) (changes v ss)) ∙ r)

-- ---- what shows at a tick

-- a value of a code, or of another one
put_same : (code old new t : ℕ) (es : List Event) → alike (code ∷ []) (code ∷ []) ≡ true
    → value_at (code ∷ []) t (Is old) (put_if code old new es) ≡ value_at (code ∷ []) t (Is new) es
put_same code old new t es a =
    by-test (eqb old new)
    (λ e. subst (λ (b : Bool). value_at (code ∷ []) t (Is old) (cond b es (Put (code ∷ []) new ∷ es)) ≡ value_at (code ∷ []) t (Is new) es) (sym e) (ap (λ (x : ℕ). value_at (code ∷ []) t (Is x) es) (eqb-true old new e)))
    (λ e. subst (λ (b : Bool). value_at (code ∷ []) t (Is old) (cond b es (Put (code ∷ []) new ∷ es)) ≡ value_at (code ∷ []) t (Is new) es) (sym e) put)
  where
    put : value_at (code ∷ []) t (Is old) (Put (code ∷ []) new ∷ es) ≡ value_at (code ∷ []) t (Is new) es
    put = unfold value_at in ap (λ (b : Bool). value_at (code ∷ []) t (cond b (Is new) (Is old)) es) a

put_other : (code other old new t : ℕ) (n : Number) (es : List Event) → alike (other ∷ []) (code ∷ []) ≡ false
    → value_at (code ∷ []) t n (put_if other old new es) ≡ value_at (code ∷ []) t n es
put_other code other old new t n es a =
    by-test (eqb old new)
    (λ e. ap (λ (b : Bool). value_at (code ∷ []) t n (cond b es (Put (other ∷ []) new ∷ es))) e)
    (λ e. ap (λ (b : Bool). value_at (code ∷ []) t n (cond b es (Put (other ∷ []) new ∷ es))) e ∙ put)
  where
    put : value_at (code ∷ []) t n (Put (other ∷ []) new ∷ es) ≡ value_at (code ∷ []) t n es
    put = unfold value_at in ap (λ (b : Bool). value_at (code ∷ []) t (cond b (Is new) n) es) a

-- one of the four: what an interval's values leave, and that a sample that shows the same shows it
pub record Field (code : ℕ) (of : Shown → ℕ) : Type 0 where
  pub new : (v w : Shown) (t : ℕ) (es : List Event) → value_at (code ∷ []) t (Is (of v)) (changed_events v w es) ≡ value_at (code ∷ []) t (Is (of w)) es
  pub kept : (v w : Shown) → same v w ≡ true → of v ≡ of w

module _ (v w : Shown) (h : same v w ≡ true) where
  of_four : (v.processor ≡ w.processor) × ((v.copyin ≡ w.copyin) × ((v.copyout ≡ w.copyout) × (v.half ≡ w.half)))
  of_four =
      let a = both (eqb v.processor w.processor) (eqb v.copyin w.copyin && (eqb v.copyout w.copyout && eqb v.half w.half)) h in
      let b = both (eqb v.copyin w.copyin) (eqb v.copyout w.copyout && eqb v.half w.half) a.1 in
      let c = both (eqb v.copyout w.copyout) (eqb v.half w.half) b.1 in
      (eqb-true v.processor w.processor a.0, (eqb-true v.copyin w.copyin b.0, (eqb-true v.copyout w.copyout c.0, eqb-true v.half w.half c.1)))

alike_self : (c : ℕ) → eqb c c ≡ true → alike (c ∷ []) (c ∷ []) ≡ true
unfolding alike
alike_self c e = rw e

unlike : (c d : ℕ) → eqb c d ≡ false → alike (c ∷ []) (d ∷ []) ≡ false
unfolding alike
unlike c d e = rw e

processor_field : Field 97 (λ v. v.processor)
processor_field = record {
  new = λ v w t es.
      put_same 97 v.processor w.processor t _ (alike_self 97 refl)
      ∙ put_other 97 98 v.copyin w.copyin t (Is w.processor) _ (unlike 98 97 refl)
      ∙ put_other 97 99 v.copyout w.copyout t (Is w.processor) _ (unlike 99 97 refl)
      ∙ put_other 97 100 v.half w.half t (Is w.processor) es (unlike 100 97 refl);
  kept = λ v w h. (of_four v w h).0;
}

copyin_field : Field 98 (λ v. v.copyin)
copyin_field = record {
  new = λ v w t es.
      put_other 98 97 v.processor w.processor t (Is v.copyin) _ (unlike 97 98 refl)
      ∙ put_same 98 v.copyin w.copyin t _ (alike_self 98 refl)
      ∙ put_other 98 99 v.copyout w.copyout t (Is w.copyin) _ (unlike 99 98 refl)
      ∙ put_other 98 100 v.half w.half t (Is w.copyin) es (unlike 100 98 refl);
  kept = λ v w h. (of_four v w h).1.0;
}

copyout_field : Field 99 (λ v. v.copyout)
copyout_field = record {
  new = λ v w t es.
      put_other 99 97 v.processor w.processor t (Is v.copyout) _ (unlike 97 99 refl)
      ∙ put_other 99 98 v.copyin w.copyin t (Is v.copyout) _ (unlike 98 99 refl)
      ∙ put_same 99 v.copyout w.copyout t _ (alike_self 99 refl)
      ∙ put_other 99 100 v.half w.half t (Is w.copyout) es (unlike 100 99 refl);
  kept = λ v w h. (of_four v w h).1.1.0;
}

half_field : Field 100 (λ v. v.half)
half_field = record {
  new = λ v w t es.
      put_other 100 97 v.processor w.processor t (Is v.half) _ (unlike 97 100 refl)
      ∙ put_other 100 98 v.copyin w.copyin t (Is v.half) _ (unlike 98 100 refl)
      ∙ put_other 100 99 v.copyout w.copyout t (Is v.half) _ (unlike 99 100 refl)
      ∙ put_same 100 v.half w.half t es (alike_self 100 refl);
  kept = λ v w h. (of_four v w h).1.1.1;
}

-- under a mark at or before the tick, and under a later one
at_before : (code : List ℕ) (t m : ℕ) (n : Number) (es : List Event) → leb m t ≡ true → value_at code t n (At m ∷ es) ≡ value_at code t n es
unfolding value_at
at_before code t m n es h = rw h

at_after : (code : List ℕ) (t m : ℕ) (n : Number) (es : List Event) → leb m t ≡ false → value_at code t n (At m ∷ es) ≡ n
unfolding value_at
at_after code t m n es h = rw h

-- an instant whose values are the same leaves nothing, any other a mark and its values
one_same : (v : Shown) (s : Sample) (es : List Event) → same v s.shown ≡ true → change_events v s es ≡ es
one_same v s es h = rw h

one_other : (v : Shown) (s : Sample) (es : List Event) → same v s.shown ≡ false → change_events v s es ≡ At s.time ∷ changed_events v s.shown es
one_other v s es h = rw h

module _ {code : ℕ} {of : Shown → ℕ} (f : Field code of) (t : ℕ) where
  none_later : (v : Shown) (n : Number) (m : ℕ) (ss : List Sample) → t ≤ m → Later m ss → value_at (code ∷ []) t n (changes_events v ss) ≡ n
  unfolding changes_events Later
  none_later v n m [] l r = unfold value_at in refl
  none_later v n m (s ∷ ss) l r =
      by-test (same v s.shown)
      (λ e. ap (value_at (code ∷ []) t n) (one_same v s (changes_events s.shown ss) e) ∙ none_later s.shown n s.time ss (omega (arith, l, r.0)) r.2)
      (λ e. ap (value_at (code ∷ []) t n) (one_other v s (changes_events s.shown ss) e) ∙ at_after (code ∷ []) t s.time n _ (lt-leb s.time t (omega (arith, l, r.0))))

  follows : (v : Shown) (m : ℕ) (ss : List Sample) → Later m ss → value_at (code ∷ []) t (Is (of v)) (changes_events v ss) ≡ Is (of (shown_at v ss t))
  unfolding changes_events Later shown_at
  follows v m [] r = unfold value_at in refl
  follows v m (s ∷ ss) r = by-test (leb s.time t) (reached (follows s.shown s.time ss r.2)) missed
    where
      tail : List Event
      tail = changes_events s.shown ss

      reached : value_at (code ∷ []) t (Is (of s.shown)) tail ≡ Is (of (shown_at s.shown ss t)) → leb s.time t ≡ true → value_at (code ∷ []) t (Is (of v)) (change_events v s tail) ≡ Is (of (cond (leb s.time t) (shown_at s.shown ss t) v))
      reached ih h =
          by-test (same v s.shown)
          (λ e. ap (value_at (code ∷ []) t (Is (of v))) (one_same v s tail e) ∙ ap (λ (x : ℕ). value_at (code ∷ []) t (Is x) tail) (f.kept v s.shown e))
          (λ e. ap (value_at (code ∷ []) t (Is (of v))) (one_other v s tail e) ∙ at_before (code ∷ []) t s.time (Is (of v)) (changed_events v s.shown tail) h ∙ f.new v s.shown t tail)
          ∙ ih
          ∙ sym (ap (λ (b : Bool). Is (of (cond b (shown_at s.shown ss t) v))) h)

      missed : leb s.time t ≡ false → value_at (code ∷ []) t (Is (of v)) (change_events v s tail) ≡ Is (of (cond (leb s.time t) (shown_at s.shown ss t) v))
      missed h =
          by-test (same v s.shown)
          (λ e. ap (value_at (code ∷ []) t (Is (of v))) (one_same v s tail e) ∙ none_later s.shown (Is (of v)) s.time ss (omega (arith, leb-false s.time t h)) r.2)
          (λ e. ap (value_at (code ∷ []) t (Is (of v))) (one_other v s tail e) ∙ at_after (code ∷ []) t s.time (Is (of v)) (changed_events v s.shown tail) h)
          ∙ sym (ap (λ (b : Bool). Is (of (cond b (shown_at s.shown ss t) v))) h)

-- ---- no idle words

rise_put : (last : Number) (code old new : ℕ) (es : List Event) → rise last (put_if code old new es) ≡ rise last es
rise_put last code old new es =
    by-test (eqb old new)
    (λ e. ap (λ (b : Bool). rise last (cond b es (Put (code ∷ []) new ∷ es))) e)
    (λ e. ap (λ (b : Bool). rise last (cond b es (Put (code ∷ []) new ∷ es))) e ∙ put)
  where
    put : rise last (Put (code ∷ []) new ∷ es) ≡ rise last es
    put = unfold rise in refl

rise_changed : (last : Number) (v w : Shown) (es : List Event) → rise last (changed_events v w es) ≡ rise last es
rise_changed last v w es =
    rise_put last 97 v.processor w.processor _ ∙ rise_put last 98 v.copyin w.copyin _
    ∙ rise_put last 99 v.copyout w.copyout _ ∙ rise_put last 100 v.half w.half es

rise_mark : (k m : ℕ) (es : List Event) → k < m → rise (Is m) es ≡ true → rise (Is k) (At m ∷ es) ≡ true
unfolding rise
rise_mark k m es l h = let e = lt-ltb k m l in rw (e, h)

rises : (k m : ℕ) (v : Shown) (ss : List Sample) → k ≤ m → Later m ss → rise (Is k) (changes_events v ss) ≡ true
unfolding changes_events Later
rises k m v [] l r = unfold rise in refl
rises k m v (s ∷ ss) l r =
    by-test (same v s.shown)
    (λ e. ap (rise (Is k)) (one_same v s (changes_events s.shown ss) e) ∙ rises k s.time s.shown ss (omega (arith, l, r.0)) r.2)
    (λ e. ap (rise (Is k)) (one_other v s (changes_events s.shown ss) e)
    ∙ rise_mark k s.time (changed_events v s.shown (changes_events s.shown ss)) (omega (arith, l, r.0))
    (rise_changed (Is s.time) v s.shown (changes_events s.shown ss) ∙ rises s.time s.time s.shown ss (omega arith) r.2))

valued_put : (waits : Bool) (code old new : ℕ) (es : List Event) → valued waits (put_if code old new es) ≡ valued (eqb old new && waits) es
valued_put waits code old new es =
    by-test (eqb old new)
    (λ e. subst (λ (b : Bool). valued waits (cond b es (Put (code ∷ []) new ∷ es)) ≡ valued (b && waits) es) (sym e) refl)
    (λ e. subst (λ (b : Bool). valued waits (cond b es (Put (code ∷ []) new ∷ es)) ≡ valued (b && waits) es) (sym e) put)
  where
    put : valued waits (Put (code ∷ []) new ∷ es) ≡ valued false es
    put = unfold valued in refl

turned : (a b c d : Bool) → (d && (c && (b && (a && true)))) ≡ (a && (b && (c && d)))
turned true true true true = refl
turned true true true false = refl
turned true true false true = refl
turned true true false false = refl
turned true false true true = refl
turned true false true false = refl
turned true false false true = refl
turned true false false false = refl
turned false true true true = refl
turned false true true false = refl
turned false true false true = refl
turned false true false false = refl
turned false false true true = refl
turned false false true false = refl
turned false false false true = refl
turned false false false false = refl

valued_changed : (v w : Shown) (es : List Event) → valued true (changed_events v w es) ≡ valued (same v w) es
valued_changed v w es =
    let a = eqb v.processor w.processor in
    let b = eqb v.copyin w.copyin in
    let c = eqb v.copyout w.copyout in
    valued_put true 97 v.processor w.processor _ ∙ valued_put (a && true) 98 v.copyin w.copyin _
    ∙ valued_put (b && (a && true)) 99 v.copyout w.copyout _ ∙ valued_put (c && (b && (a && true))) 100 v.half w.half es
    ∙ ap (λ (x : Bool). valued x es) (turned a b c (eqb v.half w.half))

valued_mark : (m : ℕ) (es : List Event) → valued false (At m ∷ es) ≡ valued true es
unfolding valued
valued_mark m es = refl

all_valued : (v : Shown) (ss : List Sample) → valued false (changes_events v ss) ≡ true
unfolding changes_events
all_valued v [] = unfold valued in refl
all_valued v (s ∷ ss) =
    by-test (same v s.shown)
    (λ e. ap (valued false) (one_same v s (changes_events s.shown ss) e) ∙ all_valued s.shown ss)
    (λ e. ap (valued false) (one_other v s (changes_events s.shown ss) e) ∙ valued_mark s.time _ ∙ valued_changed v s.shown (changes_events s.shown ss)
    ∙ ap (λ (x : Bool). valued x (changes_events s.shown ss)) e ∙ all_valued s.shown ss)

-- what came before, with a value where it changed
abbrev put_before : ℕ → ℕ → ℕ → List Event → List Event
put_before code old new before = cond (eqb old new) before (Put (code ∷ []) new ∷ before)

module _ (code old new : ℕ) (before : List Event) where
  fresh_put : (es : List Event) → last_of (code ∷ []) before ≡ Is old → fresh before (put_if code old new es) ≡ fresh (put_before code old new before) es
  fresh_put es h =
      by-test (eqb old new)
      (λ e. subst (λ (b : Bool). fresh before (cond b es (Put (code ∷ []) new ∷ es)) ≡ fresh (cond b before (Put (code ∷ []) new ∷ before)) es) (sym e) refl)
      (λ e. subst (λ (b : Bool). fresh before (cond b es (Put (code ∷ []) new ∷ es)) ≡ fresh (cond b before (Put (code ∷ []) new ∷ before)) es) (sym e) (put e))
    where
      put : eqb old new ≡ false → fresh before (Put (code ∷ []) new ∷ es) ≡ fresh (Put (code ∷ []) new ∷ before) es
      put e = unfold fresh in ap (λ (x : Number). other x new && fresh (Put (code ∷ []) new ∷ before) es) h ∙ ap (λ (b : Bool). not b && fresh (Put (code ∷ []) new ∷ before) es) e

  last_same : alike (code ∷ []) (code ∷ []) ≡ true → last_of (code ∷ []) before ≡ Is old → last_of (code ∷ []) (put_before code old new before) ≡ Is new
  last_same a h =
      by-test (eqb old new)
      (λ e. ap (λ (b : Bool). last_of (code ∷ []) (cond b before (Put (code ∷ []) new ∷ before))) e ∙ h ∙ ap Is (eqb-true old new e))
      (λ e. ap (λ (b : Bool). last_of (code ∷ []) (cond b before (Put (code ∷ []) new ∷ before))) e ∙ put)
    where
      put : last_of (code ∷ []) (Put (code ∷ []) new ∷ before) ≡ Is new
      put = unfold last_of in ap (λ (b : Bool). cond b (Is new) (last_of (code ∷ []) before)) a

  last_other : (d : ℕ) → alike (code ∷ []) (d ∷ []) ≡ false → last_of (d ∷ []) (put_before code old new before) ≡ last_of (d ∷ []) before
  last_other d a =
      by-test (eqb old new)
      (λ e. ap (λ (b : Bool). last_of (d ∷ []) (cond b before (Put (code ∷ []) new ∷ before))) e)
      (λ e. ap (λ (b : Bool). last_of (d ∷ []) (cond b before (Put (code ∷ []) new ∷ before))) e ∙ put)
    where
      put : last_of (d ∷ []) (Put (code ∷ []) new ∷ before) ≡ last_of (d ∷ []) before
      put = unfold last_of in ap (λ (b : Bool). cond b (Is new) (last_of (d ∷ []) before)) a

-- the last values are those of what shows
pub record Lasts (before : List Event) (v : Shown) : Type 0 where
  pub of_a : last_of (97 ∷ []) before ≡ Is v.processor
  pub of_b : last_of (98 ∷ []) before ≡ Is v.copyin
  pub of_c : last_of (99 ∷ []) before ≡ Is v.copyout
  pub of_d : last_of (100 ∷ []) before ≡ Is v.half

module _ (v w : Shown) (before : List Event) (h : Lasts before v) where
  abbrev b1 : List Event
  b1 = put_before 97 v.processor w.processor before

  abbrev b2 : List Event
  b2 = put_before 98 v.copyin w.copyin b1

  abbrev b3 : List Event
  b3 = put_before 99 v.copyout w.copyout b2

  abbrev b4 : List Event
  b4 = put_before 100 v.half w.half b3

  b_then : last_of (98 ∷ []) b1 ≡ Is v.copyin
  b_then = last_other 97 v.processor w.processor before 98 (unlike 97 98 refl) ∙ h.of_b

  c_then : last_of (99 ∷ []) b2 ≡ Is v.copyout
  c_then = last_other 98 v.copyin w.copyin b1 99 (unlike 98 99 refl) ∙ last_other 97 v.processor w.processor before 99 (unlike 97 99 refl) ∙ h.of_c

  d_then : last_of (100 ∷ []) b3 ≡ Is v.half
  d_then =
      last_other 99 v.copyout w.copyout b2 100 (unlike 99 100 refl) ∙ last_other 98 v.copyin w.copyin b1 100 (unlike 98 100 refl)
      ∙ last_other 97 v.processor w.processor before 100 (unlike 97 100 refl) ∙ h.of_d

  fresh_changed : (es : List Event) → fresh before (changed_events v w es) ≡ fresh b4 es
  fresh_changed es =
      fresh_put 97 v.processor w.processor before _ h.of_a ∙ fresh_put 98 v.copyin w.copyin b1 _ b_then
      ∙ fresh_put 99 v.copyout w.copyout b2 _ c_then ∙ fresh_put 100 v.half w.half b3 es d_then

  lasts_then : Lasts b4 w
  lasts_then = record {
    of_a = last_other 100 v.half w.half b3 97 (unlike 100 97 refl) ∙ last_other 99 v.copyout w.copyout b2 97 (unlike 99 97 refl)
        ∙ last_other 98 v.copyin w.copyin b1 97 (unlike 98 97 refl) ∙ last_same 97 v.processor w.processor before (alike_self 97 refl) h.of_a;
    of_b = last_other 100 v.half w.half b3 98 (unlike 100 98 refl) ∙ last_other 99 v.copyout w.copyout b2 98 (unlike 99 98 refl)
        ∙ last_same 98 v.copyin w.copyin b1 (alike_self 98 refl) b_then;
    of_c = last_other 100 v.half w.half b3 99 (unlike 100 99 refl) ∙ last_same 99 v.copyout w.copyout b2 (alike_self 99 refl) c_then;
    of_d = last_same 100 v.half w.half b3 (alike_self 100 refl) d_then;
  }

fresh_mark : (before : List Event) (m : ℕ) (es : List Event) → fresh before (At m ∷ es) ≡ fresh before es
unfolding fresh
fresh_mark before m es = refl

lasts_same : (before : List Event) (v w : Shown) → same v w ≡ true → Lasts before v → Lasts before w
lasts_same before v w e h =
    let x = of_four v w e in
    record { of_a = h.of_a ∙ ap Is x.0; of_b = h.of_b ∙ ap Is x.1.0; of_c = h.of_c ∙ ap Is x.1.1.0; of_d = h.of_d ∙ ap Is x.1.1.1 }

all_fresh : (before : List Event) (v : Shown) (ss : List Sample) → Lasts before v → fresh before (changes_events v ss) ≡ true
unfolding changes_events
all_fresh before v [] h = unfold fresh in refl
all_fresh before v (s ∷ ss) h =
    by-test (same v s.shown)
    (λ e. ap (fresh before) (one_same v s (changes_events s.shown ss) e) ∙ all_fresh before s.shown ss (lasts_same before v s.shown e h))
    (λ e. ap (fresh before) (one_other v s (changes_events s.shown ss) e) ∙ fresh_mark before s.time _ ∙ fresh_changed v s.shown before h (changes_events s.shown ss)
    ∙ all_fresh (b4 v s.shown before h) s.shown ss (lasts_then v s.shown before h))

-- ---- the whole dump

module _ (v : Shown) (ss : List Sample) (f : Fits v) (r : Later 0 ss) where
  abbrev whole : List Event
  whole = At 0 ∷ all_events v (changes_events v ss)

  is_read : read (dump (record { time = 0; shown = v } ∷ ss)) ≡ Dump variables whole
  is_read = dump_read v ss f r

  show : {code : ℕ} {of : Shown → ℕ} (name : List ℕ) → Field code of
      → ((t : ℕ) → shows (Dump variables whole) name t ≡ value_at (code ∷ []) t NoNumber whole)
      → ((t : ℕ) → value_at (code ∷ []) t NoNumber (all_events v (changes_events v ss)) ≡ value_at (code ∷ []) t (Is (of v)) (changes_events v ss))
      → (t : ℕ) → shows (read (dump (record { time = 0; shown = v } ∷ ss))) name t ≡ Is (of (shown_at v ss t))
  show {code} name x h i t =
      ap (λ (y : Read). shows y name t) is_read ∙ h t
      ∙ at_before (code ∷ []) t 0 NoNumber (all_events v (changes_events v ss)) (le-leb 0 t (omega arith)) ∙ i t ∙ follows x t v 0 ss r

  pub views : Views (dump (record { time = 0; shown = v } ∷ ss)) (shown_at v ss)
  views = record {
    events = whole;
    reads = is_read;
    rising = unfold rise in rises 0 0 v ss (omega arith) r;
    each_valued = unfold valued in all_valued v ss;
    each_new = unfold fresh last_of alike in all_fresh (Put (100 ∷ []) v.half ∷ Put (99 ∷ []) v.copyout ∷ Put (98 ∷ []) v.copyin ∷ Put (97 ∷ []) v.processor ∷ []) v ss (record { of_a = refl; of_b = refl; of_c = refl; of_d = refl });
    processor = show (ascii "processor") processor_field (λ t. unfold named alike ascii in refl) (λ t. unfold value_at alike in refl);
    copy_in = show (ascii "copy_in") copyin_field (λ t. unfold named alike ascii in refl) (λ t. unfold value_at alike in refl);
    copy_out = show (ascii "copy_out") copyout_field (λ t. unfold named alike ascii in refl) (λ t. unfold value_at alike in refl);
    half = show (ascii "half") half_field (λ t. unfold named alike ascii in refl) (λ t. unfold value_at alike in refl);
  }

-- what shows is another function with the same values
views_as : {bytes : List ℕ} (f g : ℕ → Shown) → ((t : ℕ) → f t ≡ g t) → Views bytes f → Views bytes g
views_as f g h v = record {
  events = v.events;
  reads = v.reads;
  rising = v.rising;
  each_valued = v.each_valued;
  each_new = v.each_new;
  processor = λ t. v.processor t ∙ ap (λ (x : Shown). Is x.processor) (h t);
  copy_in = λ t. v.copy_in t ∙ ap (λ (x : Shown). Is x.copyin) (h t);
  copy_out = λ t. v.copy_out t ∙ ap (λ (x : Shown). Is x.copyout) (h t);
  half = λ t. v.half t ∙ ap (λ (x : Shown). Is x.half) (h t);
}

-- a list of samples that begins at 0
begins_at : (v : Shown) (s : Sample) (ss : List Sample) → s.time ≡ 0 → Views (dump (record { time = 0; shown = s.shown } ∷ ss)) (shown_at s.shown ss) → Views (dump (s ∷ ss)) (shown_at v (s ∷ ss))
begins_at v s ss z h =
    subst (λ (t : ℕ). Views (dump (record { time = t; shown = s.shown } ∷ ss)) (shown_at v (record { time = t; shown = s.shown } ∷ ss))) (sym z)
    (views_as (shown_at s.shown ss) (shown_at v (record { time = 0; shown = s.shown } ∷ ss)) first h)
  where
    first : (t : ℕ) → shown_at s.shown ss t ≡ shown_at v (record { time = 0; shown = s.shown } ∷ ss) t
    first t = unfold shown_at in sym (ap (λ (b : Bool). cond b (shown_at s.shown ss t) v) (le-leb 0 t (omega arith)))

pub dump_views : DumpViews
unfolding DumpViews
dump_views v [] r = absurd r
dump_views v (s ∷ ss) r = begins_at v s ss r.0 (views s.shown ss r.1 r.2)

pub accepted_views : (s : List ℕ) → AcceptedViews s
accepted_views s rs h =
    views_as (shown_at nothing (samples_of s rs)) (λ t. shown_of (values_at s rs t)) (samples_tell.tell s rs nothing) (unfold DumpViews in dump_views nothing (samples_of s rs) (samples_tell.readable s rs h))
  where
    nothing : Shown
    nothing = record { processor = 0; copyin = 0; copyout = 0; half = 0 }
