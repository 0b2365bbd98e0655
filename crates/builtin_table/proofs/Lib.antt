mod Ascending
