-- The frame of the picture: the page's head with its style and its legend, and what comes after the last line.
use Rattle.lwp_types.specs.Names.{null_id}
use Rattle.std.specs.Fmt.{decimal}
use Rattle.std.specs.List.{flat_map}
use Rattle.std.specs.Prelude.{Bool, List, [], codes, false, if◌then◌else◌, min, true, ℕ, ◌*◌, ◌++◌, ◌+◌, ◌-◌, ◌/◌, ◌==◌, ◌^◌, ◌∷◌}
use Rattle.trace_page.specs.Scene.{Seen}
use Rattle.trace_page.specs.Measures.{end_width, foot, most_tenths, names_width}
use Rattle.trace_page.specs.Shapes.{escaped_text, group_closed, group_open, label_text, lane_waits, shapes_text, x_of, y_of}
use Rattle.trace_page.specs.Steps.{is_due}
use Rattle.trace_page.specs.Waits.{each_from}
use Rattle.trace_page.specs.declared.scene.Hop.{Hop}
use Rattle.trace_page.specs.declared.scene.Lane.{Lane}
use Rattle.trace_page.specs.declared.scene.Naming.{Naming}

-- the page up to its style
unfoldable pub opening : List ℕ
opening = codes "<!DOCTYPE html>\n<html lang='en'>\n<head>\n<meta charset='utf-8'>\n<meta name='viewport' content='width=device-width'>\n<title>A run of lightweight processes</title>\n<style>\n"

-- the colours, in light and dark
unfoldable pub colours : List ℕ
colours = codes ":root{color-scheme:light dark;--paper:#fff;--ink:#1c1c1c;--soft:#667;--line:#b9bec8;--reply:#c2541b;--letter:#1f6fb4;--monitor:#b3261e;--condition:#7a3fa0;--death:#5a5a5a;--clock:#00767c;--suspended:#a07800;--caught:#7a3fa0;--held:#cfe6d2;--edge:#3c7a46;--under:darken}\n@media(prefers-color-scheme:dark){:root{--paper:#15171a;--ink:#e8e8e8;--soft:#a4abb8;--line:#4a505c;--reply:#ff9a5c;--letter:#6db8ff;--monitor:#ff7d74;--condition:#cf9bf2;--death:#b9b9b9;--clock:#5fd3d8;--suspended:#f0c64a;--caught:#cf9bf2;--held:#24442a;--edge:#7fc98b;--under:lighten}}\n"

-- how the page is laid out
unfoldable pub layout : List ℕ
layout = codes "body{margin:0;padding:8px;min-width:max-content;display:flex;flex-direction:column;background:var(--paper);color:var(--ink);font:13px sans-serif}\n.more{order:-1;margin:4px 0;position:sticky;left:8px;width:max-content}\n.stuck{order:-3;position:sticky;left:8px;width:calc(100vw - 32px);max-height:30vh;overflow:auto}\n.stuck p{margin:4px 0}\n.stuck p:empty,.stuck br:first-child{display:none}\n.cycle{color:var(--monitor);font-weight:bold}\n.key{height:124px;width:900px;flex:none;position:sticky;left:8px}\n.scale{order:-2;position:sticky;left:8px;width:max-content}\n.scale a{color:inherit;margin-left:12px}\n.strip{order:-1;position:sticky;top:0;left:8px;z-index:3;flex:none;width:calc(100vw - 16px);height:44px;background:var(--paper);border:1px solid var(--line);box-sizing:border-box;cursor:pointer}\n.seen{fill:var(--suspended);opacity:.25}\n.page{display:grid;grid-template-columns:150px auto;min-width:max-content}\n.run{grid-area:2/2}\n.numbers{grid-area:1/2;position:sticky;top:44px;z-index:1;height:16px;background:var(--paper)}\n.names{grid-area:2/1;position:sticky;left:0;z-index:2;width:150px;background:var(--paper);border-right:1px solid var(--line)}\n.sheet{display:none}\nsvg{display:block;fill:var(--ink)}\n@page{margin:8mm}\n@media print{:root{color-scheme:light}.scale,.strip,.page{display:none}.sheet{display:block;max-width:100%}.key{height:auto;width:100%}.names,.numbers{position:static}}\n"

-- how marks look
unfoldable pub marks : List ℕ
marks = codes "text{font:12px sans-serif}\n.name{font-weight:bold}\n.said{font-size:9px;font-style:italic}\n.number,.event{font-size:10px;fill:var(--soft);text-anchor:middle}\n.clock{font-size:10px;fill:var(--clock);text-anchor:middle}\n.tag{font-size:11px;fill:var(--ink)}\n.end{font-weight:bold}\n.due,.idle{font-weight:bold}\n.due{fill:var(--monitor)}\n.idle{fill:var(--ink)}\n.life,#rule{fill:var(--line);mix-blend-mode:var(--under);pointer-events:none}\n#rule{opacity:.5}\n#clock,#spot{fill:var(--clock)}\n#refused{fill:var(--monitor)}\n#caught path{fill:none;stroke:var(--caught);stroke-width:1.6}\n#clock rect{opacity:.5;pointer-events:none}\n.held{fill:var(--held);stroke:var(--edge);stroke-width:.8}\n.reply,.letter,.monitor,.condition,.death,.sleep,.suspended{stroke-width:1}\n"

-- how waits look: by colour and by pattern
unfoldable pub waits : List ℕ
waits = codes ".reply{fill:url(#p-reply);stroke:var(--reply)}\n.letter{fill:url(#p-letter);stroke:var(--letter)}\n.monitor{fill:url(#p-monitor);stroke:var(--monitor)}\n.condition{fill:url(#p-condition);stroke:var(--condition)}\n.death{fill:url(#p-death);stroke:var(--death)}\n.sleep{fill:url(#p-sleep);stroke:var(--clock)}\n.suspended{fill:url(#p-suspended);stroke:var(--suspended)}\n#p-reply path{stroke:var(--reply);stroke-width:1.4;fill:none}\n#p-letter path{stroke:var(--letter);stroke-width:1.4;fill:none}\n#p-monitor path{stroke:var(--monitor);stroke-width:1.4;fill:none}\n#p-condition path{stroke:var(--condition);stroke-width:1.4;fill:none}\n#p-death path{stroke:var(--death);stroke-width:1.4;fill:none}\n#p-sleep path{stroke:var(--clock);stroke-width:1.4;fill:none}\n#p-suspended path{stroke:var(--suspended);stroke-width:1.4;fill:none}\n@media print{.reply{fill:none;stroke-dasharray:5 2}.letter{fill:none}.monitor{fill:none;stroke-width:2}.condition{fill:none;stroke-dasharray:1.5 2}.death{fill:var(--line)}.sleep{fill:none;stroke-dasharray:8 2 1.5 2}.suspended{fill:none}}\n"

-- how arrows look
unfoldable pub ways : List ℕ
ways = codes "path.sent,path.replied,path.woken,path.event,path.blocked,path.deadlock{fill:none;stroke-width:1.3}\npath.sent{stroke:var(--letter);marker-end:url(#a-sent)}\npath.replied{stroke:var(--reply);stroke-dasharray:5 2;marker-end:url(#a-replied)}\npath.woken{stroke:var(--soft);stroke-dasharray:1.5 2;marker-end:url(#a-woken)}\npath.event{stroke:var(--soft);opacity:.5}\npath.blocked{stroke:var(--soft);marker-end:url(#a-woken)}\npath.deadlock{stroke:var(--monitor);stroke-width:2.4;marker-end:url(#a-deadlock)}\n#a-deadlock path{fill:var(--monitor)}\n#a-sent path{fill:var(--letter)}\n#a-replied path{fill:var(--reply)}\n#a-woken path{fill:var(--soft)}\n.sign{fill:none;stroke:var(--ink);stroke-width:2}\n</style>\n</head>\n<body>\n"

-- the patterns of waits
unfoldable pub patterns : List ℕ
patterns = codes "<svg class='key' viewBox='0 0 900 124'>\n<defs><pattern id='p-reply' width='6' height='6' patternUnits='userSpaceOnUse'><path d='M0 6L6 0'/></pattern><pattern id='p-letter' width='6' height='6' patternUnits='userSpaceOnUse'><path d='M1 3h1.5M4 0h1.5M4 6h1.5'/></pattern><pattern id='p-monitor' width='6' height='6' patternUnits='userSpaceOnUse'><path d='M0 0L6 6M0 6L6 0'/></pattern><pattern id='p-condition' width='6' height='6' patternUnits='userSpaceOnUse'><path d='M1 0V6M4 0V6'/></pattern><pattern id='p-death' width='6' height='6' patternUnits='userSpaceOnUse'><path d='M0 0L6 6'/></pattern><pattern id='p-sleep' width='6' height='6' patternUnits='userSpaceOnUse'><path d='M0 4.5L3 1.5L6 4.5'/></pattern><pattern id='p-suspended' width='6' height='6' patternUnits='userSpaceOnUse'><path d='M0 1.5H6M0 4.5H6'/></pattern>"

-- arrow heads and signs
unfoldable pub signs : List ℕ
signs = codes "<marker id='a-sent' viewBox='0 0 8 8' refX='7' refY='4' markerWidth='6' markerHeight='6' orient='auto'><path d='M0 0L8 4L0 8z'/></marker><marker id='a-replied' viewBox='0 0 8 8' refX='7' refY='4' markerWidth='6' markerHeight='6' orient='auto'><path d='M0 0L8 4L0 8z'/></marker><marker id='a-woken' viewBox='0 0 8 8' refX='7' refY='4' markerWidth='6' markerHeight='6' orient='auto'><path d='M0 0L8 4L0 8z'/></marker><marker id='a-deadlock' viewBox='0 0 8 8' refX='7' refY='4' markerWidth='10' markerHeight='10' markerUnits='userSpaceOnUse' orient='auto'><path d='M0 0L8 4L0 8z'/></marker><g id='tick'><rect x='-4' y='0' width='8' height='20' fill='transparent'/><rect x='-1' y='2' width='2' height='16'/></g><g id='exit'><path class='sign' d='M0 4L5 10L0 16L-5 10z'/></g><g id='death'><path class='sign' d='M3 5L13 15M3 15L13 5'/></g><g id='answer'><rect x='3' y='0' width='8' height='20' fill='transparent'/><circle cx='7' cy='17' r='1.4'/></g><g id='refused'><rect x='3' y='0' width='8' height='20' fill='transparent'/><path d='M5.6 2h2.8l-.6 10h-1.6z'/><circle cx='7' cy='16' r='1.7'/></g><g id='caught'><rect x='3' y='0' width='8' height='20' fill='transparent'/><path d='M9.5 3V12A3 3 0 0 1 3.5 12V9'/></g><rect id='rule' x='-.5' y='0' width='1'/><circle id='spot' r='3'/><g id='clock'><circle r='3'/><rect x='-.5' y='0' width='1'/></g></defs>\n"

-- the legend: what is waited for
unfoldable pub key_waits : List ℕ
key_waits = codes "<rect class='reply' x='8' y='6' width='28' height='12'/><text x='42' y='16'>waits for a reply</text><rect class='letter' x='158' y='6' width='28' height='12'/><text x='192' y='16'>for a letter</text><rect class='monitor' x='288' y='6' width='28' height='12'/><text x='322' y='16'>for a monitor</text><rect class='condition' x='418' y='6' width='28' height='12'/><text x='452' y='16'>on a condition</text><rect class='death' x='558' y='6' width='28' height='12'/><text x='592' y='16'>for a death</text><rect class='suspended' x='678' y='6' width='28' height='6'/><text x='712' y='16'>suspended</text><rect class='held' x='788' y='6' width='28' height='12'/><text class='tag' x='791' y='16'>m0</text><text x='822' y='16'>holds</text>\n"

-- the legend: marks and arrows
unfoldable pub key_marks : List ℕ
key_marks = codes "<use href='#tick' x='20' y='28'/><text x='34' y='42'>a call</text><use href='#exit' x='110' y='28'/><text x='122' y='42'>an exit procedure</text><use href='#death' x='242' y='28'/><text x='262' y='42'>a death</text><path class='sent' d='M330 38L360 38'/><text x='366' y='42'>a letter</text><path class='replied' d='M430 38L460 38'/><text x='466' y='42'>a reply</text><path class='woken' d='M530 38L560 38'/><text x='566' y='42'>wakes</text><text class='event' x='632' y='42'>0:1</text><text x='648' y='42'>a line: client and number</text><use href='#answer' x='13' y='52'/><text x='34' y='66'>an answer</text><use href='#refused' x='103' y='52'/><text x='122' y='66'>a refusal</text><use href='#caught' x='237' y='52'/><text x='262' y='66'>an exception is caught</text><text class='said' x='430' y='66'>hello</text><text x='466' y='66'>what is said, where there is room</text><text x='8' y='90'>Calls go from left to right, every tenth has its number above. Point at a mark to see its line of the trace.</text><rect class='sleep' x='678' y='56' width='28' height='12'/><text x='712' y='66'>sleeps</text><use href='#spot' x='796' y='62'/><text class='clock' x='808' y='66'>7</text><text x='822' y='66'>a tick</text><path class='woken' d='M20 102L20 118'/><text x='34' y='114'>a trap is raised</text><path class='blocked' d='M158 110L186 110'/><text x='192' y='114'>whom somebody waits for at the end</text><path class='deadlock' d='M430 110L460 110'/><text x='466' y='114'>the same in a deadlock</text></svg>\n<div class='page'>\n<svg class='run'><g id='run'>\n"

unfoldable pub head_style : List ℕ
head_style = opening ++ (colours ++ (layout ++ (marks ++ (waits ++ (ways)))))

unfoldable pub head_key : List ℕ
head_key = patterns ++ (signs ++ (key_waits ++ (key_marks)))

-- all that stands before the picture
unfoldable pub head : List ℕ
head = head_style ++ head_key

unfoldable pub names_open : List ℕ
names_open = codes "</g></svg>\n<svg class='names'><g id='names'>\n"

unfoldable pub names_closed : List ℕ
names_closed = codes "</g></svg>\n"

unfoldable pub numbers_open : List ℕ
numbers_open = codes "<svg class='numbers'><g id='numbers'>\n"

unfoldable pub numbers_closed : List ℕ
numbers_closed = codes "</g></svg>\n</div>\n"

unfoldable pub size_open : List ℕ
size_open = codes "<style>.run,.numbers{width:"

unfoldable pub height_open : List ℕ
height_open = codes "px}.run,.names,#rule,#clock rect{height:"

unfoldable pub paper_open : List ℕ
paper_open = codes "px}.sheet{width:"

unfoldable pub size_closed : List ℕ
size_closed = codes "px}</style>\n"

unfoldable pub strip_open : List ℕ
strip_open = codes "<svg class='strip' preserveAspectRatio='none' viewBox='0 0 "

unfoldable pub strip_closed : List ℕ
strip_closed = codes "'><use href='#run'/><rect class='seen' y='0' height='100%'/></svg>\n"

unfoldable pub sheet_open : List ℕ
sheet_open = codes "<svg class='sheet' viewBox='0 0 "

unfoldable pub sheet_turned : List ℕ
sheet_turned = codes "'><g transform='rotate(90) translate(0 -"

unfoldable pub sheet_closed : List ℕ
sheet_closed = codes ")'><use href='#names'/><use href='#run' x='150'/><use href='#numbers' x='150'/></g></svg>\n"

-- the strip tells what is seen, and goes where one clicks; a slider sets the scale: the page is whole without them
unfoldable pub script : List ℕ
script = codes "<script>\n(function(){\nvar q=function(s){return document.querySelector(s)},page=q('.page'),run=q('.run'),strip=q('.strip'),seen=q('.seen'),wide=strip.viewBox.baseVal.width;\nvar show=function(){var r=run.getBoundingClientRect(),k=wide/r.width;strip.style.display=Math.max(0,r.width+150-innerWidth)?'':'none';seen.setAttribute('x',Math.max(0,(150-r.left)*k));seen.setAttribute('width',Math.max(0,(innerWidth-150)*k))};\nstrip.onclick=function(e){var r=run.getBoundingClientRect(),s=strip.getBoundingClientRect();scrollBy((e.clientX-s.left)/s.width*r.width+r.left-innerWidth/2,0)};\nvar label=document.createElement('label'),range=document.createElement('input');label.className='scale';label.append('scale ',range);range.type='range';range.min=25;range.max=200;range.value=100;\nrange.oninput=function(){page.style.zoom=range.value/100;show()};\nvar go=function(words,x){var a=document.createElement('a');a.href='#';a.append(words);a.onclick=function(){scrollTo(x(),0);return false};label.append(a)},end=function(){return document.documentElement.scrollWidth};\ngo('to the start',function(){return 0});go('to the end',end);\ndocument.body.append(label);addEventListener('scroll',show);addEventListener('resize',show);\nif(q('.waits:not(:empty)')&&Math.max(0,run.getBoundingClientRect().width+150-innerWidth))scrollTo(end(),0);\nshow()\n})()\n</script>\n"

unfoldable pub more_open : List ℕ
more_open = codes "<p class='more'>Call "

unfoldable pub more_closed : List ℕ
more_closed = codes " is the last that is drawn; the trace goes on. The words --last 5000 draw its end.</p>\n"

unfoldable pub page_closed : List ℕ
page_closed = codes "</body>\n</html>\n"

unfoldable pub event_open : List ℕ
event_open = codes ", event "

unfoldable pub name_closed : List ℕ
name_closed = codes "</text>\n"

-- the event of an agent
unfoldable pub event_words : ℕ → List ℕ
event_words event = if event == 0 then [] else event_open ++ decimal event

-- the procedure that a thread begins with, where its creation is told
abbrev pub procedure_of : ℕ → List Naming → List ℕ
procedure_of id [] = []
procedure_of id (naming ∷ namings) = if naming.tid == id then naming.name else procedure_of id namings

unfoldable pub procedure_words : List ℕ → List ℕ
procedure_words [] = []
procedure_words (b ∷ bs) = codes " " ++ escaped_text (b ∷ bs)

-- the name of a lane
unfoldable pub name_words : Seen → Lane → List ℕ
name_words s lane = codes "t"
    ++ (decimal lane.id ++ (event_words lane.event ++ procedure_words (procedure_of lane.id s.names)))

unfoldable pub name_text : Seen → Lane → List ℕ
name_text s lane = label_text (codes "name") 4 (y_of s lane.id + foot) ++ (name_words s lane ++ name_closed)

-- the names of the lanes stand before the picture, where it is pushed aside too
unfoldable pub names_text : Seen → List ℕ
names_text s = names_open ++ (flat_map (λ lane. name_text s lane) s.lanes ++ names_closed)

-- the number of a tenth call: of this many after the first that is drawn
abbrev pub tenth : Seen → ℕ → ℕ
tenth s n = min (10 * (s.base / 10 + 1 + n)) (2 ^ 64 - 1)

unfoldable pub number_text : Seen → ℕ → List ℕ
number_text s n = label_text (codes "number") (x_of s (record { call = tenth s n; late = false })) 12
    ++ (decimal (tenth s n) ++ name_closed)

-- how many tenth calls are drawn
abbrev pub tenths : Seen → ℕ
tenths s = min ((s.time.call - 1) / 10 - s.base / 10) most_tenths

-- the numbers stand before the picture too, where it is moved up
unfoldable pub numbers_text : Seen → List ℕ
numbers_text s = numbers_open ++ (each_from (number_text s) 0 (tenths s) ++ numbers_closed)

-- how wide and high the picture is
abbrev pub width_of : Seen → ℕ
width_of s = x_of s s.time + end_width

abbrev pub height_of : Seen → ℕ
height_of s = y_of s null_id + 8

unfoldable pub size_text : Seen → List ℕ
size_text s = size_open
    ++ (decimal (width_of s)
    ++ (height_open ++ (decimal (height_of s) ++ (paper_open ++ (decimal (height_of s) ++ size_closed)))))

-- the whole picture once more, on a strip
unfoldable pub strip_text : Seen → List ℕ
strip_text s = strip_open ++ (decimal (width_of s) ++ (codes " " ++ (decimal (height_of s) ++ strip_closed)))

-- the whole picture for print, where time goes down: what is higher than a sheet of paper goes on on the next
unfoldable pub sheet_text : Seen → List ℕ
sheet_text s = sheet_open
    ++ (decimal (height_of s)
    ++ (codes " " ++ (decimal (width_of s + names_width) ++ (sheet_turned ++ (decimal (height_of s) ++ sheet_closed)))))

-- says so, where calls after the last aren't drawn
unfoldable pub more_text : Seen → List ℕ
more_text s = if s.more then more_open ++ (decimal s.last ++ more_closed) else []

-- before the first step of a cycle, and before another
unfoldable pub hop_front : Bool → List ℕ
hop_front true = codes "<br/>Deadlock: t"
hop_front false = codes ", t"

-- who waits for whom in a cycle
unfoldable pub hop_text : Hop → List ℕ
hop_text hop = hop_front hop.begins ++ (decimal hop.from ++ (codes " waits for t" ++ decimal hop.to))

unfoldable pub wait_front : List ℕ
wait_front = codes "<br/>t"

-- what a thread waits for still, and who has it
unfoldable pub wait_line : Seen → Lane → List ℕ
wait_line s lane = if is_due lane then wait_front ++ (decimal lane.id ++ (codes " " ++ lane_waits s lane)) else []

unfoldable pub stuck_open : List ℕ
stuck_open = codes "<div class='stuck'><p class='cycle'>"

unfoldable pub stuck_between : List ℕ
stuck_between = codes "</p>\n<p class='waits'>"

unfoldable pub stuck_closed : List ℕ
stuck_closed = codes "</p></div>\n"

-- at the end of the trace: the cycles, and then who waits
unfoldable pub stuck_text : Seen → List ℕ
stuck_text s = if s.more then [] else stuck_open
    ++ (flat_map (λ hop. hop_text hop) s.hops
    ++ (stuck_between ++ (flat_map (λ lane. wait_line s lane) s.lanes ++ stuck_closed)))

-- what is still open after the last line, drawn to the end
unfoldable pub end_text : Seen → List ℕ
end_text s = group_open ++ (shapes_text s [] s.shapes ++ group_closed)

-- the picture's end, and what moves with it
unfoldable pub around : Seen → List ℕ
around s = end_text s ++ (names_text s ++ (numbers_text s ++ size_text s))

-- the strip above it, what is said at the top, and the sheet
unfoldable pub beyond : Seen → List ℕ
beyond s = strip_text s ++ (more_text s ++ (stuck_text s ++ (sheet_text s ++ script)))

-- all that comes after the last line
unfoldable pub tail : Seen → List ℕ
tail s = around s ++ (beyond s ++ page_closed)
