-- Methods by their names.
use Rattle.std.proofs.Common.{◌≡◌, ℕ, zero, suc, ◌+◌, ◌<◌, ◌≤◌, Bool, true, false, cond, List, [], ◌∷◌, length, drop, get_or, Option, Some, None, map, refl, sym, ap, subst, ◌∙◌, arith, add-one, eq-eqb}
use Rattle.std.proofs.lemmas.Bool.Decides.{nat_tests}
use Rattle.std.specs.Prelude.{codes, nat_eq, if◌then◌else◌}
use Rattle.std.specs.Str.{chars}
use Rattle.std.proofs.lemmas.List.{drop_all}
use Rattle.si_plain.specs.Characters.{characters_of}
use Rattle.si_semantics.specs.Value.{Text}
use Rattle.si_semantics.specs.Text.{same_text}
use Rattle.si_semantics.proofs.Names.{same_is, same_self, other_is}
use Rattle.si_semantics.specs.Attributes as attributes
use Rattle.si_semantics.specs.Attributes.{method_named, method_name}
use Rattle.si_methods.specs.declared.method.Method.{Method}
use Rattle.si_methods.specs.declared.method.MethodName.{MethodName}
use Rattle.si_methods.specs.declared.method.MethodName.TheVariants as name
use Rattle.si_methods.specs.Methods.{method_in, spelled, number_of, same_name, AreOthers, IsAmong, IsMethodName}

-- a name is ASCII
pub name_characters : (n : MethodName) → characters_of (spelled n) ≡ spelled n
unfolding chars
name_characters name.StartsWith = refl
name_characters name.EndsWith = refl
name_characters name.Join = refl
name_characters name.Encode = refl
name_characters name.Append = refl
name_characters name.Pop = refl
name_characters name.Get = refl
name_characters name.Create = refl
name_characters name.ListAll = refl
name_characters name.GetCurrent = refl
name_characters name.GetMain = refl
name_characters name.CreateQueue = refl
name_characters name.IsShareable = refl
name_characters name.Thread = refl
name_characters name.Start = refl
name_characters name.Exec = refl
name_characters name.IsRunning = refl
name_characters name.Close = refl
name_characters name.PrepareMain = refl
name_characters name.Empty = refl
name_characters name.Full = refl
name_characters name.Size = refl
name_characters name.Put = refl
name_characters name.PutNow = refl
name_characters name.GetNow = refl

-- ---- two names are one just where they are spelled so

-- all names
abbrev pub all_names : List MethodName
all_names = name.StartsWith ∷ name.EndsWith ∷ name.Join ∷ name.Encode ∷ name.Append ∷ name.Pop ∷ name.Get ∷ name.Create ∷ name.ListAll ∷ name.GetCurrent ∷ name.GetMain ∷ name.CreateQueue ∷ name.IsShareable ∷ name.Thread ∷ name.Start ∷ name.Exec ∷ name.IsRunning ∷ name.Close ∷ name.PrepareMain ∷ name.Empty ∷ name.Full ∷ name.Size ∷ name.Put ∷ name.PutNow ∷ name.GetNow ∷ []

at_its_number : (n : MethodName) → get_or all_names (number_of n) name.StartsWith ≡ n
at_its_number name.StartsWith = refl
at_its_number name.EndsWith = refl
at_its_number name.Join = refl
at_its_number name.Encode = refl
at_its_number name.Append = refl
at_its_number name.Pop = refl
at_its_number name.Get = refl
at_its_number name.Create = refl
at_its_number name.ListAll = refl
at_its_number name.GetCurrent = refl
at_its_number name.GetMain = refl
at_its_number name.CreateQueue = refl
at_its_number name.IsShareable = refl
at_its_number name.Thread = refl
at_its_number name.Start = refl
at_its_number name.Exec = refl
at_its_number name.IsRunning = refl
at_its_number name.Close = refl
at_its_number name.PrepareMain = refl
at_its_number name.Empty = refl
at_its_number name.Full = refl
at_its_number name.Size = refl
at_its_number name.Put = refl
at_its_number name.PutNow = refl
at_its_number name.GetNow = refl

-- the number of the name that a text is
abbrev number_in : Text → ℕ
number_in x =
    if same_text x (codes "startswith") then 0
    else if same_text x (codes "endswith") then 1
    else if same_text x (codes "join") then 2
    else if same_text x (codes "encode") then 3
    else if same_text x (codes "append") then 4
    else if same_text x (codes "pop") then 5
    else if same_text x (codes "get") then 6
    else if same_text x (codes "create") then 7
    else if same_text x (codes "list_all") then 8
    else if same_text x (codes "get_current") then 9
    else if same_text x (codes "get_main") then 10
    else if same_text x (codes "create_queue") then 11
    else if same_text x (codes "is_shareable") then 12
    else if same_text x (codes "Thread") then 13
    else if same_text x (codes "start") then 14
    else if same_text x (codes "exec") then 15
    else if same_text x (codes "is_running") then 16
    else if same_text x (codes "close") then 17
    else if same_text x (codes "prepare_main") then 18
    else if same_text x (codes "empty") then 19
    else if same_text x (codes "full") then 20
    else if same_text x (codes "qsize") then 21
    else if same_text x (codes "put") then 22
    else if same_text x (codes "put_nowait") then 23
    else 24

number_spelled : (n : MethodName) → number_in (spelled n) ≡ number_of n
number_spelled name.StartsWith = refl
number_spelled name.EndsWith = refl
number_spelled name.Join = refl
number_spelled name.Encode = refl
number_spelled name.Append = refl
number_spelled name.Pop = refl
number_spelled name.Get = refl
number_spelled name.Create = refl
number_spelled name.ListAll = refl
number_spelled name.GetCurrent = refl
number_spelled name.GetMain = refl
number_spelled name.CreateQueue = refl
number_spelled name.IsShareable = refl
number_spelled name.Thread = refl
number_spelled name.Start = refl
number_spelled name.Exec = refl
number_spelled name.IsRunning = refl
number_spelled name.Close = refl
number_spelled name.PrepareMain = refl
number_spelled name.Empty = refl
number_spelled name.Full = refl
number_spelled name.Size = refl
number_spelled name.Put = refl
number_spelled name.PutNow = refl
number_spelled name.GetNow = refl

one_number : (a b : ℕ) → nat_eq a b ≡ true → a ≡ b
one_number a b e = grind (arith, nat_tests)

pub same_spelling : (m n : MethodName) → same_name m n ≡ same_text (spelled m) (spelled n)
same_spelling m n = by (same_name m n) refl
  where
    by : (b : Bool) → same_name m n ≡ b → same_name m n ≡ same_text (spelled m) (spelled n)
    by true e =
        let one : m ≡ n = sym (at_its_number m) ∙ ap (λ k. get_or all_names k name.StartsWith) (one_number (number_of m) (number_of n) e) ∙ at_its_number n in
        e ∙ sym (ap (λ k. same_text (spelled m) (spelled k)) (sym one) ∙ same_self (spelled m))
    by false e = e ∙ sym (other_is (spelled m) (spelled n) (λ p. differ (sym (number_spelled m) ∙ ap number_in p ∙ number_spelled n) e))
      where
        differ : number_of m ≡ number_of n → same_name m n ≡ false → ⊥
        differ p f = let two : true ≡ false = sym (eq-eqb (number_of m) (number_of n) p) ∙ f in cc

-- ---- the name that a text is

others_turn : (x : Text) (ns : List MethodName) (d : MethodName) (i : ℕ) → i < length ns → same_text x (spelled (get_or ns i d)) ≡ false → AreOthers x (drop (suc i) ns) → AreOthers x (drop i ns)
others_turn x [] d i l e h = absurd (omega arith)
others_turn x (n ∷ ns) d zero l e h = (e, h)
others_turn x (n ∷ ns) d (suc i) l e h = others_turn x ns d i (omega arith) e h

-- another name is passed over
pub other_name : (x word : List ℕ) (ns : List MethodName) (d : MethodName) (i : ℕ) (same : Bool) → i < length ns → (AreOthers x (drop i ns) → AreOthers x ns) → word ≡ spelled (get_or ns i d) → same ≡ same_text x (characters_of word) → same ≡ false → AreOthers x (drop (i + 1) ns) → AreOthers x ns
other_name x word ns d i same l h n e f rest =
    h (others_turn x ns d i l
    (ap (same_text x) (sym (ap characters_of n ∙ name_characters (get_or ns i d))) ∙ sym e ∙ f)
    (subst (λ j. AreOthers x (drop j ns)) (add-one i) rest))

-- the name is found
pub this_name : (x word : List ℕ) (n : MethodName) (same : Bool) → word ≡ spelled n → same ≡ same_text x (characters_of word) → same ≡ true → x ≡ spelled n
this_name x word n same e f g = same_is x (spelled n) (ap (same_text x) (sym (ap characters_of e ∙ name_characters n)) ∙ sym f ∙ g)

-- no name is left
pub none_named : (x : Text) (ns : List MethodName) (i : ℕ) → length ns ≤ i → (AreOthers x (drop i ns) → AreOthers x ns) → AreOthers x ns
none_named x ns i l h = h (subst (AreOthers x) (sym (drop_all i ns l)) tt)

-- ---- no method has the name

other_method_name : (x : Text) → AreOthers x all_names → (m : attributes.Method) → same_text x (method_name m) ≡ false
other_method_name x h attributes.StartsWith = h.0
other_method_name x h attributes.EndsWith = h.1.0
other_method_name x h attributes.JoinTexts = h.1.1.0
other_method_name x h attributes.Encode = h.1.1.1.0
other_method_name x h attributes.Append = h.1.1.1.1.0
other_method_name x h attributes.PopItem = h.1.1.1.1.1.0
other_method_name x h attributes.GetValue = h.1.1.1.1.1.1.0
other_method_name x h attributes.PopValue = h.1.1.1.1.1.0
other_method_name x h attributes.Create = h.1.1.1.1.1.1.1.0
other_method_name x h attributes.ListAll = h.1.1.1.1.1.1.1.1.0
other_method_name x h attributes.GetCurrent = h.1.1.1.1.1.1.1.1.1.0
other_method_name x h attributes.GetMain = h.1.1.1.1.1.1.1.1.1.1.0
other_method_name x h attributes.CreateQueue = h.1.1.1.1.1.1.1.1.1.1.1.0
other_method_name x h attributes.IsShareable = h.1.1.1.1.1.1.1.1.1.1.1.1.0
other_method_name x h attributes.MakeThread = h.1.1.1.1.1.1.1.1.1.1.1.1.1.0
other_method_name x h attributes.Start = h.1.1.1.1.1.1.1.1.1.1.1.1.1.1.0
other_method_name x h attributes.Join = h.1.1.0
other_method_name x h attributes.Execute = h.1.1.1.1.1.1.1.1.1.1.1.1.1.1.1.0
other_method_name x h attributes.IsRunning = h.1.1.1.1.1.1.1.1.1.1.1.1.1.1.1.1.0
other_method_name x h attributes.Close = h.1.1.1.1.1.1.1.1.1.1.1.1.1.1.1.1.1.0
other_method_name x h attributes.PrepareMain = h.1.1.1.1.1.1.1.1.1.1.1.1.1.1.1.1.1.1.0
other_method_name x h attributes.IsEmpty = h.1.1.1.1.1.1.1.1.1.1.1.1.1.1.1.1.1.1.1.0
other_method_name x h attributes.IsFull = h.1.1.1.1.1.1.1.1.1.1.1.1.1.1.1.1.1.1.1.1.0
other_method_name x h attributes.Size = h.1.1.1.1.1.1.1.1.1.1.1.1.1.1.1.1.1.1.1.1.1.0
other_method_name x h attributes.Put = h.1.1.1.1.1.1.1.1.1.1.1.1.1.1.1.1.1.1.1.1.1.1.0
other_method_name x h attributes.PutNow = h.1.1.1.1.1.1.1.1.1.1.1.1.1.1.1.1.1.1.1.1.1.1.1.0
other_method_name x h attributes.Get = h.1.1.1.1.1.1.0
other_method_name x h attributes.GetNow = h.1.1.1.1.1.1.1.1.1.1.1.1.1.1.1.1.1.1.1.1.1.1.1.1.0

no_method : (x : Text) → AreOthers x all_names → (ms : List attributes.Method) → method_named x ms ≡ None
no_method x h [] = refl
no_method x h (m ∷ ms) = ap (λ b. cond b (Some m) (method_named x ms)) (other_method_name x h m) ∙ no_method x h ms

pub is_method_name : (x : Text) (r : Option MethodName) → IsAmong x all_names r → IsMethodName x r
is_method_name x (Some n) h = h
is_method_name x None h = no_method x h

-- ---- the method of a name among some

turn : (x : Text) (ms : List Method) (d : Method) (i : ℕ) → i < length ms → method_named x (map method_in (drop i ms)) ≡ cond (same_text x (method_name (method_in (get_or ms i d)))) (Some (method_in (get_or ms i d))) (method_named x (map method_in (drop (suc i) ms)))
turn x [] d i l = absurd (omega arith)
turn x (m ∷ ms) d zero l = refl
turn x (m ∷ ms) d (suc i) l = turn x ms d i (omega arith)

-- two texts are the same in either order
swapped : (s t : Text) (b : Bool) → same_text s t ≡ b → same_text t s ≡ b
swapped s t true e = ap (λ u. same_text u s) (sym (same_is s t e)) ∙ same_self s
swapped s t false e = other_is t s (λ p. differ (sym p) e)
  where
    differ : s ≡ t → same_text s t ≡ false → ⊥
    differ p e = let two : true ≡ false = sym (same_self s) ∙ ap (same_text s) p ∙ e in cc

-- by whether the next method has the name
by_method : (n k : MethodName) (ms : List Method) (d : Method) (i : ℕ) (r : Option attributes.Method) (same b : Bool) → i < length ms → r ≡ method_named (spelled n) (map method_in (drop i ms)) → spelled k ≡ method_name (method_in (get_or ms i d)) → same ≡ same_name k n → same ≡ b → r ≡ cond b (Some (method_in (get_or ms i d))) (method_named (spelled n) (map method_in (drop (suc i) ms)))
by_method n k ms d i r same b l h e f g =
    h ∙ turn (spelled n) ms d i l
    ∙ ap (λ t. cond t (Some (method_in (get_or ms i d))) (method_named (spelled n) (map method_in (drop (suc i) ms))))
    (ap (same_text (spelled n)) (sym e) ∙ swapped (spelled k) (spelled n) b (sym (same_spelling k n) ∙ sym f ∙ g))

-- a method of another name is passed over
pub other_method : (n k : MethodName) (ms : List Method) (d : Method) (i : ℕ) (r : Option attributes.Method) (same : Bool) → i < length ms → r ≡ method_named (spelled n) (map method_in (drop i ms)) → spelled k ≡ method_name (method_in (get_or ms i d)) → same ≡ same_name k n → same ≡ false → r ≡ method_named (spelled n) (map method_in (drop (i + 1) ms))
other_method n k ms d i r same l h e f g = by_method n k ms d i r same false l h e f g ∙ ap (λ j. method_named (spelled n) (map method_in (drop j ms))) (sym (add-one i))

-- the method of a name is found
pub found_method : (n k : MethodName) (ms : List Method) (d : Method) (i : ℕ) (r : Option attributes.Method) (same : Bool) → i < length ms → r ≡ method_named (spelled n) (map method_in (drop i ms)) → spelled k ≡ method_name (method_in (get_or ms i d)) → same ≡ same_name k n → same ≡ true → Some (method_in (get_or ms i d)) ≡ r
found_method n k ms d i r same l h e f g = sym (by_method n k ms d i r same true l h e f g)
