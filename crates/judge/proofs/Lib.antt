mod Examining
mod Telling
